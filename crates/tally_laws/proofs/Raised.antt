-- Sums of weights after an amount at a cell.
use Prim.Native.Nat.{ℕ, zero, suc, ◌+◌, ◌≤◌, ◌<◌, max}
use native.Mathlib.Omega.{arith}
use native.Mathlib.Nat.{add-zero, zero-add, le_antisymm}
use mathlib.Core.Bool.{Bool, true, false, ◌&&◌}
use mathlib.Core.Logic.{◌⊎◌, inl, inr}
use mathlib.Core.Path.{◌≡◌, refl, ap, sym, ◌∙◌}
use mathlib.Core.List.{List}
use lib.Dec.{eqb}
use lib.ListN.{get_or, length}
use borrow.Author.Tests.{eqb-true}
use Rattle.rules.specs.Sums.{pick, sum_where, top}
use Rattle.rules.specs.Grid.{cells, coords, on, whole, inside, all_weight, line, heaviest, heaviest_line}
use Rattle.rules.specs.Demands.{part_weight}
use Rattle.laws.proofs.Totals.{total_ext, total-add, total-one, top-le, le-top}
use Rattle.halving_laws.proofs.Blocks.{inside_whole}
use Rattle.tally_laws.specs.Weighed.{heavier}
use Rattle.tally_laws.proofs.Coordinates.{edge_whole, side_whole, on_below}
use Rattle.tally_laws.proofs.Lines.{either, raised_at}

-- a sum with a test gets the amount if the cell passes
module _ (ws : List ℕ) (c v n : ℕ) (h : c < length ws) (l : c < n) where
  pub where_raised : (p : ℕ → Bool) → sum_where p (λ i. get_or (heavier ws c v) i 0) n ≡ sum_where p (λ i. get_or ws i 0) n + pick (p c) v 0
  unfolding pick
  where_raised p =
      total_ext _ (λ i. pick (p i) (get_or ws i 0) 0 + pick (eqb c i) (pick (p c) v 0) 0) n (λ i _. rw (raised_at ws c v i h) (one i (either (eqb c i))))
      ∙ total-add (λ i. pick (p i) (get_or ws i 0) 0) (λ i. pick (eqb c i) (pick (p c) v 0) 0) n
      ∙ ap (λ (x : ℕ). sum_where p (λ i. get_or ws i 0) n + x) (total-one c (pick (p c) v 0) n l)
    where
      split : (t : Bool) (x y : ℕ) → pick t (x + y) 0 ≡ pick t x 0 + pick t y 0
      split true x y = refl
      split false x y = refl

      one : (i : ℕ) → (eqb c i ≡ true) ⊎ (eqb c i ≡ false) → pick (p i) (get_or ws i 0 + pick (eqb c i) v 0) 0 ≡ pick (p i) (get_or ws i 0) 0 + pick (eqb c i) (pick (p c) v 0) 0
      one i (inl t) = rw (t, eqb-true c i t) (split (p i) (get_or ws i 0) v)
      one i (inr t) = rw t (rw add-zero (sym (add-zero _)))

-- the largest of numbers of which one is raised
pub top_raised : (f g : ℕ → ℕ) (x v n : ℕ) → x < n → ((i : ℕ) → i < n → g i ≡ f i + pick (eqb x i) v 0) → top g n ≡ max (top f n) (g x)
unfolding pick
top_raised f g x v n h e =
    le_antisymm (le-top g n _ (λ i l. at_most i l (either (eqb x i)))) (at_least (le-top f n (top g n) (λ i l. omega (arith, e i l, top-le g n i l))))
  where
    at_most : (i : ℕ) → i < n → (eqb x i ≡ true) ⊎ (eqb x i ≡ false) → g i ≤ max (top f n) (g x)
    at_most i l (inl t) = rw (eqb-true x i t) (omega arith)
    at_most i l (inr t) = let q : g i ≡ f i + 0 = rw t at (e i l) in omega (arith, q, top-le f n i l)

    at_least : top f n ≤ top g n → max (top f n) (g x) ≤ top g n
    at_least q = omega (arith, q, top-le g n x h)

pub top_ext : (f g : ℕ → ℕ) (n : ℕ) → ((i : ℕ) → i < n → f i ≡ g i) → top f n ≡ top g n
unfolding top
top_ext f g zero e = refl
top_ext f g (suc n) e = omega (arith, top_ext f g n (λ i l. e i (omega arith)), e n (omega arith))

-- the largest of larger ones
pub top_max : (f g m : ℕ → ℕ) (n : ℕ) → ((i : ℕ) → i < n → m i ≡ max (f i) (g i)) → top m n ≡ max (top f n) (top g n)
unfolding top
top_max f g m zero e = refl
top_max f g m (suc n) e = omega (arith, top_max f g m n (λ i l. e i (omega arith)), e n (omega arith))

module _ (sides ws : List ℕ) (c v : ℕ) (long : length ws ≡ cells sides) (h : c < cells sides) where
  pub all_raised : all_weight sides (heavier ws c v) ≡ all_weight sides ws + v
  unfolding all_weight pick
  all_raised = where_raised ws c v (cells sides) (rw long h) h (λ _. true)

  pub part_raised : (ids : List ℕ) (i : ℕ) → part_weight sides (heavier ws c v) ids i ≡ part_weight sides ws ids i + pick (eqb (get_or ids c 0) i) v 0
  unfolding part_weight
  part_raised ids i = where_raised ws c v (cells sides) (rw long h) h (λ d. eqb (get_or ids d 0) i)

  pub line_raised : (a j : ℕ) → line sides (heavier ws c v) (whole sides) a j ≡ line sides ws (whole sides) a j + pick (eqb (on (coords sides c) a) j) v 0
  unfolding line
  line_raised a j =
      where_raised ws c v (cells sides) (rw long h) h (λ d. inside (whole sides) (coords sides d) && eqb (on (coords sides d) a) j)
      ∙ rw (inside_whole sides c h) refl

  -- the heaviest line across an axis is as it was, or that of the cell
  pub heaviest_raised : (a : ℕ) → a < length sides → heaviest sides (heavier ws c v) (whole sides) a ≡ max (heaviest sides ws (whole sides) a) (line sides (heavier ws c v) (whole sides) a (on (coords sides c) a))
  unfolding heaviest
  heaviest_raised a l =
      rw (edge_whole sides a, side_whole sides a)
      (simp zero-add (top_raised (line sides ws (whole sides) a) (line sides (heavier ws c v) (whole sides) a) (on (coords sides c) a) v (on sides a) (on_below sides c a h l) (λ j _. line_raised a j)))

  pub heaviest_line_raised : heaviest_line sides (heavier ws c v) ≡ max (heaviest_line sides ws) (top (λ a. line sides (heavier ws c v) (whole sides) a (on (coords sides c) a)) (length sides))
  unfolding heaviest_line
  heaviest_line_raised = top_max (heaviest sides ws (whole sides)) _ _ (length sides) (λ a l. heaviest_raised a l)
