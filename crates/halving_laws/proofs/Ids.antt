-- The cells of an id are those of one block, each id is below 2 ^ k, and the weights of all ids add up.
use Prim.Native.Nat.{ℕ, zero, suc, ◌+◌, ◌-◌, ◌*◌, ◌^◌, ◌≤◌, ◌<◌}
use native.Mathlib.Omega.{arith}
use native.Mathlib.Nat.{mod-lt, two-pow-succ, add-zero}
use mathlib.Core.Path.{◌≡◌, refl, ap, sym, ◌∙◌}
use mathlib.Core.Bool.{Bool, true, false, ◌&&◌, not, and-true}
use mathlib.Core.List.{List}
use lib.Dec.{ltb, eqb}
use lib.ListN.{get_or, length}
use borrow.Author.Tests.{ltb-true, ltb-false, eq-eqb, ne_eqb, eqb-true}
use Rattle.rules.specs.Sums.{pick, total}
use Rattle.rules.specs.Grid.{cells, coords, on, Block, whole, inside, before, after, all_weight, weight}
use Rattle.rules.specs.Halving.{next_axis, cut, turn, walk, id_of, ids_of}
use Rattle.halving_laws.specs.Nodes.{choose, leaf, block_of}
use Rattle.rules.specs.Demands.{part_weight}
use Rattle.laws.proofs.Totals.{total_ext, total-one, total_swap, where_ext}
use Rattle.laws.proofs.Lists.{get_or_list}
use Rattle.halving_laws.proofs.Blocks.{same_test, whole_length, before_length, after_length, inside_whole, inside_before, inside_after}

pub next_lt : (n a : ℕ) → a < n → next_axis n a < n
unfolding next_axis
next_lt n a h = mod-lt (a + 1) (omega arith)

left_turn : (i t : Bool) (l r p x : ℕ) → x < p → (i && eqb (pick t l (p + r)) x) ≡ ((i && t) && eqb l x)
unfolding pick
left_turn false t l r p x h = refl
left_turn true true l r p x h = refl
left_turn true false l r p x h = ne_eqb (p + r) x (λ z. omega arith)

right_turn : (i t : Bool) (l r p x : ℕ) → l < p → p ≤ x → (i && eqb (pick t l (p + r)) x) ≡ ((i && not t) && eqb r (x - p))
unfolding pick
right_turn false t l r p x g h = refl
right_turn true true l r p x g h = ne_eqb l x (λ z. omega arith)
right_turn true false l r p x g h =
    same_test _ _ (λ e. eq-eqb r (x - p) (omega (arith, eqb-true (p + r) x e))) (λ e. eq-eqb (p + r) x (omega (arith, eqb-true r (x - p) e)))

module _ (s : List ℕ) (n : ℕ) where
  -- what d levels below a node add to an id, times 2 ^ d
  turns : ℕ → ℕ → ℕ → List ℕ → ℕ
  turns zero a node xs = 0
  turns (suc d) a node xs = pick (ltb (on xs a) (cut s node)) (turns d (next_axis n a) (2 * node) xs) (2 ^ d + turns d (next_axis n a) (2 * node + 1) xs)

  turns_lt : (d a node : ℕ) (xs : List ℕ) → turns d a node xs < 2 ^ d
  unfolding turns pick
  turns_lt zero a node xs = omega arith
  turns_lt (suc d) a node xs =
      go (ltb (on xs a) (cut s node)) (turns_lt d (next_axis n a) (2 * node) xs) (turns_lt d (next_axis n a) (2 * node + 1) xs)
    where
      go : (t : Bool) {l r : ℕ} → l < 2 ^ d → r < 2 ^ d → pick t l (2 ^ d + r) < 2 ^ suc d
      go true h k = rw two-pow-succ (omega arith)
      go false h k = rw two-pow-succ (omega arith)

  walk_turns : (d a node id : ℕ) (xs : List ℕ) → walk s n d a node id xs ≡ id * 2 ^ d + turns d a node xs
  unfolding walk turns pick turn
  walk_turns zero a node id xs = omega arith
  walk_turns (suc d) a node id xs =
      go (ltb (on xs a) (cut s node)) (walk_turns d (next_axis n a) (2 * node) (2 * id) xs) (walk_turns d (next_axis n a) (2 * node + 1) (2 * id + 1) xs)
    where
      go : (t : Bool) → walk s n d (next_axis n a) (2 * node) (2 * id) xs ≡ 2 * id * 2 ^ d + turns d (next_axis n a) (2 * node) xs
          → walk s n d (next_axis n a) (2 * node + 1) (2 * id + 1) xs ≡ (2 * id + 1) * 2 ^ d + turns d (next_axis n a) (2 * node + 1) xs
          → walk s n d (next_axis n a) (2 * node + turn t) (2 * id + turn t) xs
          ≡ id * 2 ^ suc d + pick t (turns d (next_axis n a) (2 * node) xs) (2 ^ d + turns d (next_axis n a) (2 * node + 1) xs)
      go true h k = simp (add-zero, two-pow-succ) (omega arith)
      go false h k = rw two-pow-succ (omega arith)

  -- the cells of a block that turn as r does are the block's at the end of the path of r
  turns_leaf : (d a node : ℕ) (b : Block) (r : ℕ) (xs : List ℕ) → a < n → length b ≡ n → r < 2 ^ d
      → (inside b xs && eqb (turns d a node xs) r) ≡ inside (leaf s n d a node b r) xs
  unfolding turns leaf choose
  turns_leaf zero a node b r xs h e l = rw (eq-eqb 0 r (omega arith)) (and-true (inside b xs))
  turns_leaf (suc d) a node b r xs h e l =
      go (ltb r (2 ^ d)) refl (turns_leaf d (next_axis n a) (2 * node) (before a (cut s node) b) r xs (next_lt n a h) (before_length a (cut s node) b ∙ e))
      (turns_leaf d (next_axis n a) (2 * node + 1) (after a (cut s node) b) (r - 2 ^ d) xs (next_lt n a h) (after_length a (cut s node) b ∙ e))
    where
      L : ℕ
      L = turns d (next_axis n a) (2 * node) xs

      R : ℕ
      R = turns d (next_axis n a) (2 * node + 1) xs

      go : (t : Bool) → ltb r (2 ^ d) ≡ t
          → (r < 2 ^ d → (inside (before a (cut s node) b) xs && eqb L r) ≡ inside (leaf s n d (next_axis n a) (2 * node) (before a (cut s node) b) r) xs)
          → (r - 2 ^ d < 2 ^ d → (inside (after a (cut s node) b) xs && eqb R (r - 2 ^ d)) ≡ inside (leaf s n d (next_axis n a) (2 * node + 1) (after a (cut s node) b) (r - 2 ^ d)) xs)
          → (inside b xs && eqb (pick (ltb (on xs a) (cut s node)) L (2 ^ d + R)) r)
          ≡ inside (choose t (leaf s n d (next_axis n a) (2 * node) (before a (cut s node) b) r) (leaf s n d (next_axis n a) (2 * node + 1) (after a (cut s node) b) (r - 2 ^ d))) xs
      go true q f g =
          left_turn (inside b xs) (ltb (on xs a) (cut s node)) L R (2 ^ d) r (ltb-true r (2 ^ d) q)
          ∙ ap (λ (t : Bool). t && eqb L r) (sym (inside_before a (cut s node) b xs (rw e h)))
          ∙ f (ltb-true r (2 ^ d) q)
      go false q f g =
          right_turn (inside b xs) (ltb (on xs a) (cut s node)) L R (2 ^ d) r (turns_lt d (next_axis n a) (2 * node) xs) (ltb-false r (2 ^ d) q)
          ∙ ap (λ (t : Bool). t && eqb R (r - 2 ^ d)) (sym (inside_after a (cut s node) b xs (rw e h)))
          ∙ g (omega (arith, ltb-false r (2 ^ d) q, rw two-pow-succ at l))

-- Ids.

module _ (sides : List ℕ) (first k : ℕ) (s : List ℕ) where
  id_turns : (c : ℕ) → id_of sides first k s c ≡ turns s (length sides) k first 1 (coords sides c)
  unfolding id_of
  id_turns c = omega (arith, walk_turns s (length sides) k first 1 0 (coords sides c))

  pub id_below : (c : ℕ) → id_of sides first k s c < 2 ^ k
  id_below c = omega (arith, id_turns c, turns_lt s (length sides) k first 1 (coords sides c))

  -- a cell has id i if and only if it is in the block of i
  pub id_is_block : (c i : ℕ) → first < length sides → c < cells sides → i < 2 ^ k
      → eqb (id_of sides first k s c) i ≡ inside (block_of sides first k s i) (coords sides c)
  unfolding block_of
  id_is_block c i h l q =
      rw (id_turns c) (ap (λ (t : Bool). t && eqb (turns s (length sides) k first 1 (coords sides c)) i) (sym (inside_whole sides c l))
      ∙ turns_leaf s (length sides) k first 1 (whole sides) i (coords sides c) h (whole_length sides) q)

  -- the ids as a list
  pub ids_read : (c : ℕ) → c < cells sides → get_or (ids_of sides first k s) c 0 ≡ id_of sides first k s c
  unfolding ids_of
  ids_read c l = get_or_list (id_of sides first k s) (cells sides) c 0 l

  -- the weight of an id is that of its block
  pub part_weight_lem : (ws : List ℕ) (i : ℕ) → first < length sides → i < 2 ^ k
      → part_weight sides ws (ids_of sides first k s) i ≡ weight sides ws (block_of sides first k s i)
  unfolding part_weight weight
  part_weight_lem ws i h q = where_ext (λ c. get_or ws c 0) (cells sides) _ _ (λ c l. ap (λ (n : ℕ). eqb n i) (ids_read c l) ∙ id_is_block c i h l q)

  pub ids_below : (c : ℕ) → c < cells sides → get_or (ids_of sides first k s) c 0 < 2 ^ k
  ids_below c l = omega (arith, ids_read c l, id_below c)

-- the weights of all ids add up to the weight of all cells
pub parts_add_up : (sides ws ids : List ℕ) (n : ℕ) → ((c : ℕ) → c < cells sides → get_or ids c 0 < n) → total (part_weight sides ws ids) n ≡ all_weight sides ws
unfolding part_weight all_weight
parts_add_up sides ws ids n h =
    total_swap (λ i c. pick (eqb (get_or ids c 0) i) (get_or ws c 0) 0) n (cells sides)
    ∙ total_ext _ _ (cells sides) (λ c l. total-one (get_or ids c 0) (get_or ws c 0) n (h c l))
