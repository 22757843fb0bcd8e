-- Laws of weights: a block's parts and lines add up, and no line of a block is heavier than the grid's.
use Prim.Native.Nat.{ℕ, zero, suc, ◌+◌, ◌-◌, ◌≤◌, ◌<◌}
use native.Mathlib.Omega.{arith}
use native.Mathlib.Nat.{add-suc}
use native.Mathlib.Decide.{dec_lt, dec_le}
use mathlib.Core.Bool.{Bool, true, false, ◌&&◌, not}
use mathlib.Core.Path.{◌≡◌, refl, ap, ap₂, sym, ◌∙◌}
use mathlib.Core.List.{List}
use lib.Dec.{ltb, eqb}
use lib.ListN.{get_or, length}
use borrow.Author.Tests.{lt-ltb, le-ltb, ltb-true, ltb-false, eq-eqb, eqb-true, not-true}
use Rattle.rules.specs.Sums.{total, sum_where, top}
use Rattle.rules.specs.Grid.{cells, coords, on, Block, whole, inside, edge, side, before, after, all_weight, weight, line, heaviest, heaviest_line}
use Rattle.laws.proofs.Any.{never}
use Rattle.laws.proofs.Totals.{where_ext, where_all, where_none, where_mono, where_split, top-le, le-top}
use Rattle.halving_laws.proofs.Blocks.{both, same_test, whole_length, inside_whole, inside_before, inside_after, inside_edge}

module _ (sides ws : List ℕ) where
  -- a block's two parts weigh what it does
  pub left_plus_right : (a c : ℕ) (b : Block) → a < length b
      → weight sides ws (before a c b) + weight sides ws (after a c b) ≡ weight sides ws b
  unfolding weight
  left_plus_right a c b h =
      ap₂ ◌+◌ (where_ext _ _ _ _ (λ k l. inside_before a c b (coords sides k) h))
      (where_ext _ _ _ _ (λ k l. inside_after a c b (coords sides k) h))
      ∙ where_split _ _ (λ k. inside b (coords sides k)) (λ k. ltb (on (coords sides k) a) c)

  -- the whole grid weighs what all cells do
  pub whole_weight : weight sides ws (whole sides) ≡ all_weight sides ws
  unfolding weight all_weight
  whole_weight = where_all _ _ _ (λ c l. inside_whole sides c l)

  pub weight_before : (a c : ℕ) (b : Block) → a < length b
      → weight sides ws (before a c b) ≡ sum_where (λ k. inside b (coords sides k) && ltb (on (coords sides k) a) c) (λ k. get_or ws k 0) (cells sides)
  unfolding weight
  weight_before a c b h = where_ext _ _ _ _ (λ k l. inside_before a c b (coords sides k) h)

  -- the first j lines of a block make up the part below them
  pub lines_before : (a : ℕ) (b : Block) (j : ℕ) → a < length b
      → total (λ i. line sides ws b a (edge a b + i)) j ≡ weight sides ws (before a (edge a b + j) b)
  unfolding total line
  lines_before a b zero h =
      sym (where_none (λ k. get_or ws k 0) (cells sides) _ (λ k l. none (coords sides k))) ∙ sym (weight_before a (edge a b + 0) b h)
    where
      none : (xs : List ℕ) → (inside b xs && ltb (on xs a) (edge a b + 0)) ≡ false
      none xs = never _ (λ e. let i = both (inside b xs) (ltb (on xs a) (edge a b + 0)) e in
          omega (arith, inside_edge a b xs h i.0, ltb-true (on xs a) (edge a b + 0) i.1))
  lines_before a b (suc j) h =
      ap (λ (k : ℕ). k + line sides ws b a (edge a b + j)) (lines_before a b j h ∙ weight_before a (edge a b + j) b h)
      ∙ ap₂ ◌+◌ (where_ext (λ k. get_or ws k 0) (cells sides) _ (λ k. up (coords sides k) && ltb (on (coords sides k) a) (edge a b + j)) (λ k l. low (coords sides k)))
      (where_ext (λ k. get_or ws k 0) (cells sides) _ (λ k. up (coords sides k) && not (ltb (on (coords sides k) a) (edge a b + j))) (λ k l. same (coords sides k)))
      ∙ where_split (λ k. get_or ws k 0) (cells sides) (λ k. up (coords sides k)) (λ k. ltb (on (coords sides k) a) (edge a b + j))
      ∙ sym (weight_before a (edge a b + suc j) b h)
    where
      up : List ℕ → Bool
      up xs = inside b xs && ltb (on xs a) (edge a b + suc j)

      tests : (t : Bool) (x e : ℕ) → (t && ltb x e) ≡ ((t && ltb x (suc e)) && ltb x e)
      tests false x e = refl
      tests true x e = same_test _ _ (λ q. rw (lt-ltb x (suc e) (omega (arith, ltb-true x e q)), q))
          (λ q. (both (ltb x (suc e)) (ltb x e) q).1)

      ends : (t : Bool) (x e : ℕ) → (t && eqb x e) ≡ ((t && ltb x (suc e)) && not (ltb x e))
      ends false x e = refl
      ends true x e = same_test _ _ (λ q. rw (lt-ltb x (suc e) (omega (arith, eqb-true x e q)), le-ltb x e (omega (arith, eqb-true x e q))))
          (λ q. let i = both (ltb x (suc e)) (not (ltb x e)) q in
          eq-eqb x e (omega (arith, ltb-true x (suc e) i.0, ltb-false x e (not-true _ i.1))))

      low : (xs : List ℕ) → (inside b xs && ltb (on xs a) (edge a b + j)) ≡ (up xs && ltb (on xs a) (edge a b + j))
      low xs = rw add-suc (tests (inside b xs) (on xs a) (edge a b + j))

      same : (xs : List ℕ) → (inside b xs && eqb (on xs a) (edge a b + j)) ≡ (up xs && not (ltb (on xs a) (edge a b + j)))
      same xs = rw add-suc (ends (inside b xs) (on xs a) (edge a b + j))

  -- all lines of a block make it up
  pub lines_all : (a : ℕ) (b : Block) → a < length b → total (λ i. line sides ws b a (edge a b + i)) (side a b) ≡ weight sides ws b
  unfolding weight
  lines_all a b h =
      lines_before a b (side a b) h ∙ weight_before a (edge a b + side a b) b h
      ∙ where_ext (λ k. get_or ws k 0) (cells sides) _ _ (λ k l. all (coords sides k))
    where
      all : (xs : List ℕ) → (inside b xs && ltb (on xs a) (edge a b + side a b)) ≡ inside b xs
      all xs = same_test _ _ (λ e. (both (inside b xs) _ e).0)
          (λ e. rw (e, lt-ltb (on xs a) (edge a b + side a b) (inside_edge a b xs h e).1))

  -- no line is heavier than the heaviest of its block
  pub line_at_most_heaviest : (a j : ℕ) (b : Block) → a < length b → line sides ws b a j ≤ heaviest sides ws b a
  unfolding heaviest line
  line_at_most_heaviest a j b h = go (dec_le (edge a b) j) (dec_lt j (edge a b + side a b))
    where
      outside : ((xs : List ℕ) → inside b xs ≡ true → on xs a ≡ j → ⊥) → line sides ws b a j ≡ 0
      outside f = where_none (λ k. get_or ws k 0) (cells sides) _ (λ k l. never _ (λ e. let i = both (inside b (coords sides k)) _ e in f (coords sides k) i.0 (eqb-true _ j i.1)))

      here : (i : ℕ) → j ≡ edge a b + i → i < side a b → line sides ws b a j ≤ top (λ i. line sides ws b a (edge a b + i)) (side a b)
      here i e l = rw e (top-le (λ i. line sides ws b a (edge a b + i)) (side a b) i l)

      go : Dec (edge a b ≤ j) → Dec (j < edge a b + side a b) → line sides ws b a j ≤ top (λ i. line sides ws b a (edge a b + i)) (side a b)
      go (yes p) (yes q) = here (j - edge a b) (omega arith) (omega arith)
      go (yes p) (no q) = omega (arith, outside (λ xs e z. omega (arith, inside_edge a b xs h e)))
      go (no p) (yes q) = omega (arith, outside (λ xs e z. omega (arith, inside_edge a b xs h e)))
      go (no p) (no q) = omega (arith, outside (λ xs e z. omega (arith, inside_edge a b xs h e)))

  -- no line of a block is heavier than the grid's line that it is part of
  pub line_in_block_at_most_line_in_grid : (a j : ℕ) (b : Block) → line sides ws b a j ≤ line sides ws (whole sides) a j
  unfolding line
  line_in_block_at_most_line_in_grid a j b =
      where_mono (λ k. get_or ws k 0) (cells sides) _ _ (λ k l e. rw (inside_whole sides k l) (both (inside b (coords sides k)) _ e).1)

  pub heaviest_at_most_grid : (a : ℕ) (b : Block) → a < length sides → heaviest sides ws b a ≤ heaviest_line sides ws
  unfolding heaviest heaviest_line
  heaviest_at_most_grid a b h =
      le-top _ (side a b) _ (λ i l. omega (
        arith,
        line_in_block_at_most_line_in_grid a (edge a b + i) b,
        line_at_most_heaviest a (edge a b + i) (whole sides) (rw whole_length h),
        top-le (heaviest sides ws (whole sides)) (length sides) a h,
      ))

  -- a block with a side of 0 has no cell
  pub flat_weight : (a : ℕ) (b : Block) → a < length b → side a b ≡ 0 → weight sides ws b ≡ 0
  unfolding weight
  flat_weight a b h z = where_none (λ k. get_or ws k 0) (cells sides) _ (λ k l. never _ (λ e. omega (arith, inside_edge a b (coords sides k) h e)))

  -- no block is heavier than all cells
  pub weight_at_most_all : (b : Block) → weight sides ws b ≤ all_weight sides ws
  unfolding weight
  weight_at_most_all b =
      omega (
        arith,
        where_mono (λ k. get_or ws k 0) (cells sides) (λ k. inside b (coords sides k)) (λ k. inside (whole sides) (coords sides k)) (λ k l e. inside_whole sides k l),
        whole_weight,
      )
