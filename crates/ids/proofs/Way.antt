-- The way of a cell through the cuts.
use Prim.Native.Nat.{ℕ, suc, ◌+◌, ◌-◌, ◌*◌, ◌^◌, ◌≤◌, ◌<◌}
use native.Mathlib.Omega.{arith}
use native.Mathlib.Nat.{add-zero}
use mathlib.Core.Path.{◌≡◌, sym, ◌∙◌}
use mathlib.Core.List.{List}
use lib.ListN.{length, get_or}
use borrow.Author.Tests.{lt-ltb, le-ltb}
use Rattle.std.proofs.lemmas.List.{get_or_default}
use Rattle.rules.specs.Refusals.{top_depth}
use Rattle.rules.specs.Halving.{uncut, cut, next_axis, turn, walk}
use Rattle.halving_laws.specs.Nodes.{Places}
use Rattle.halving_laws.proofs.Ids.{next_lt}
use Rattle.halving_laws.proofs.Steps.{place_here, first_places, second_places}

walk_left : (s : List ℕ) (n d a node id : ℕ) (xs : List ℕ) → get_or xs a 0 < cut s node
    → walk s n (suc d) a node id xs ≡ walk s n d (next_axis n a) (2 * node) (2 * id) xs
unfolding walk turn
walk_left s n d a node id xs h = rw (lt-ltb (get_or xs a 0) (cut s node) h) (simp add-zero)

walk_right : (s : List ℕ) (n d a node id : ℕ) (xs : List ℕ) → cut s node ≤ get_or xs a 0
    → walk s n (suc d) a node id xs ≡ walk s n d (next_axis n a) (2 * node + 1) (2 * id + 1) xs
unfolding walk turn
walk_right s n d a node id xs h = rw (le-ltb (get_or xs a 0) (cut s node) h)

pub record Way (s : List ℕ) (n depth first : ℕ) (xs : List ℕ) (node id a level : ℕ) : Type 0 where
  pub within : level ≤ depth
  pub places : Places node (depth - level) (length s)
  pub small : id < node
  pub axis : a < n
  pub same : walk s n (depth - level) a node id xs ≡ walk s n depth first 1 0 xs

pub begin : (s : List ℕ) (n depth first : ℕ) (xs : List ℕ) → Places 1 depth (length s) → first < n → Way s n depth first xs 1 0 first 0
begin s n depth first xs p h =
    let e : depth - 0 ≡ depth = omega arith in
    record { within = omega arith; places = rw e p; small = omega arith; axis = h; same = rw e }

module _ {s : List ℕ} {n depth first : ℕ} {xs : List ℕ} {node id a level : ℕ} (w : Way s n depth first xs node id a level) where
  pub node_small : level < depth → (1 ≤ node) × (node ≤ length s) × (length s < 2 ^ top_depth)
  node_small l =
      let h = place_here node (depth - level) (length s) (λ z. omega arith) w.places in
      (w.places.room.first, omega (arith, w.places.room.first), w.places.short)

  read : level < depth → get_or s (node - 1) 0 ≡ cut s node
  read l = let q = node_small l in get_or_default s (node - 1) 0 uncut (omega arith)

  pub leftwards : level < depth → get_or xs a 0 < get_or s (node - 1) 0 → Way s n depth first xs (2 * node) (2 * id) (next_axis n a) (level + 1)
  leftwards l h =
      let e : depth - level ≡ suc (depth - (level + 1)) = omega arith in
      let m : depth - (level + 1) ≡ (depth - level) - 1 = omega arith in
      record {
        within = omega arith;
        places = rw m (first_places w.places (λ z. omega arith));
        small = omega (arith, w.small);
        axis = next_lt n a w.axis;
        same = sym (walk_left s n (depth - (level + 1)) a node id xs (omega (arith, read l))) ∙ rw (← e) w.same;
      }

  pub rightwards : level < depth → get_or s (node - 1) 0 ≤ get_or xs a 0 → Way s n depth first xs (2 * node + 1) (2 * id + 1) (next_axis n a) (level + 1)
  rightwards l h =
      let e : depth - level ≡ suc (depth - (level + 1)) = omega arith in
      let m : depth - (level + 1) ≡ (depth - level) - 1 = omega arith in
      record {
        within = omega arith;
        places = rw m (second_places w.places (λ z. omega arith));
        small = omega (arith, w.small);
        axis = next_lt n a w.axis;
        same = sym (walk_right s n (depth - (level + 1)) a node id xs (omega (arith, read l))) ∙ rw (← e) w.same;
      }

  pub arrived : depth ≤ level → id ≡ walk s n depth first 1 0 xs
  unfolding walk
  arrived l =
      let e : depth - level ≡ 0 = omega arith in
      rw e at w.same
