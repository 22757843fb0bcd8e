-- The tree of cuts, step by step, as the code writes it.
use Prim.Native.Nat.{ℕ, zero, suc, ◌+◌, ◌-◌, ◌*◌, ◌^◌, ◌<◌}
use native.Mathlib.Omega.{arith}
use mathlib.Core.Path.{◌≡◌, refl}
use mathlib.Core.List.{List}
use lib.ListN.{length, set}
use Rattle.rules.specs.Grid.{Block, side, before, after}
use Rattle.rules.specs.Refusals.{top_depth}
use Rattle.rules.specs.Halving.{Edition, next_axis, cut_at, unless_flat, fill}
use Rattle.halving_laws.specs.Nodes.{Room, Places}
use Rattle.halving_laws.proofs.Heap.{room_here, room_left, room_right}

module _ (e : Edition) (sides ws : List ℕ) where
  pub fill_end : (d a : ℕ) (b : Block) (node : ℕ) (s : List ℕ) → d ≡ 0 → s ≡ fill e sides ws d a b node s
  unfolding fill
  fill_end d a b node s z = rw z

  pub fill_flat : (d a : ℕ) (b : Block) (node : ℕ) (s : List ℕ) → side a b ≡ 0 → s ≡ fill e sides ws d a b node s
  unfolding fill unless_flat
  fill_flat zero a b node s z = refl
  fill_flat (suc d) a b node s z = rw z

  pub fill_cut : (d a : ℕ) (b : Block) (node c : ℕ) (s : List ℕ) → (d ≡ 0 → ⊥) → (side a b ≡ 0 → ⊥) → c ≡ cut_at e sides ws a b
      → fill e sides ws (d - 1) (next_axis (length sides) a) (after a c b) (2 * node + 1)
      (fill e sides ws (d - 1) (next_axis (length sides) a) (before a c b) (2 * node) (set s (node - 1) c))
      ≡ fill e sides ws d a b node s
  unfolding fill unless_flat
  fill_cut zero a b node c s f g q = absurd (f refl)
  fill_cut (suc d) a b node c s f g q =
      let z : suc d - 1 ≡ d = omega arith in
      rw (z, q) (rest (side a b) _ g)
    where
      rest : (n : ℕ) (t : List ℕ) → (n ≡ 0 → ⊥) → t ≡ unless_flat n s t
      rest zero t f = absurd (f refl)
      rest (suc n) t f = refl

-- Room, where a level is left.

pub here : (node d n : ℕ) → (d ≡ 0 → ⊥) → Room node d n → node - 1 < n
here node zero n f r = absurd (f refl)
here node (suc d) n f r = room_here node d n r

pub first_room : (node d n : ℕ) → (d ≡ 0 → ⊥) → Room node d n → Room (2 * node) (d - 1) n
first_room node zero n f r = absurd (f refl)
first_room node (suc d) n f r = let z : suc d - 1 ≡ d = omega arith in rw z (room_left node d n r)

pub second_room : (node d n : ℕ) → (d ≡ 0 → ⊥) → Room node d n → Room (2 * node + 1) (d - 1) n
second_room node zero n f r = absurd (f refl)
second_room node (suc d) n f r = let z : suc d - 1 ≡ d = omega arith in rw z (room_right node d n r)

-- Places.

pub place_here : (node d n : ℕ) → (d ≡ 0 → ⊥) → Places node d n → node - 1 < n
place_here node d n f p = here node d n f p.room

pub first_places : {node d n : ℕ} → Places node d n → (d ≡ 0 → ⊥) → Places (2 * node) (d - 1) n
first_places {node} {d} {n} p f = record { room = first_room node d n f p.room; short = p.short }

pub second_places : {node d n : ℕ} → Places node d n → (d ≡ 0 → ⊥) → Places (2 * node + 1) (d - 1) n
second_places {node} {d} {n} p f = record { room = second_room node d n f p.room; short = p.short }

-- the nodes of such splits are small
pub small_node : (node d n : ℕ) → (d ≡ 0 → ⊥) → Places node d n → node < 2 ^ top_depth
small_node node d n f p = omega (arith, p.short, p.room.first, place_here node d n f p)

-- one level fewer
pub falls_by : {d t : ℕ} → (d ≡ 0 → ⊥) → d ≡ t → d - 1 < t
falls_by f e = omega arith
