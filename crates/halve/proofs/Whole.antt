-- The grid of a call that is not refused is a sound part, and its splits have places for all nodes.
use Prim.Native.Nat.{ℕ, zero, suc, ◌+◌, ◌-◌, ◌*◌, ◌^◌, ◌≤◌, ◌<◌}
use native.Mathlib.Omega.{arith}
use native.Mathlib.Nat.{zero-add}
use mathlib.Core.Path.{◌≡◌, refl, sym, ◌∙◌}
use mathlib.Core.List.{List, [], ◌∷◌}
use lib.ListN.{length, take, replicate}
use lib.Pow.{pow_mono}
use Rattle.rules.specs.Grid.{whole, weight, on}
use Rattle.rules.specs.Halving.{uncut, edition_of, fill, splits_of, splits_by}
use Rattle.halving_laws.specs.Nodes.{Places}
use Rattle.halving_laws.specs.Accepted.{Accepted}
use Rattle.halving_laws.proofs.Accepted.{no_side_unfit}
use Rattle.halving_laws.proofs.Heap.{room_root}
use Rattle.halving_laws.proofs.Weights.{weight_at_most_all}
use Rattle.halving_laws.proofs.Demand3.{weight_fits}
use Rattle.blocks.specs.Blocks.{sides_of, rule_of, ranges, as_block, whole_of}
use Rattle.blocks.specs.declared.grid.Grid.{Grid}
use Rattle.blocks.specs.declared.halving.Halving.{Halving}
use Rattle.blocks.proofs.AsBlocks.{three, axes_are, cells_are, sides_fit}
use Rattle.cuts.specs.Sums.{solid, Readable, Lies}
use Rattle.cuts.specs.Cuts.{Sound}
use Rattle.cuts.proofs.Solids.{weight_is_solid}

whole_on : (n x y z : ℕ) → (2 ≤ n) × (n ≤ 3) → take n (ranges (0 ∷ 0 ∷ 0 ∷ []) (x ∷ y ∷ z ∷ [])) ≡ whole (take n (x ∷ y ∷ z ∷ []))
unfolding ranges whole
whole_on zero x y z f = absurd (omega arith)
whole_on (suc zero) x y z f = absurd (omega arith)
whole_on (suc (suc zero)) x y z f = simp zero-add
whole_on (suc (suc (suc zero))) x y z f = simp zero-add
whole_on (suc (suc (suc (suc n)))) x y z f = absurd (omega arith)

block_whole : (g : Grid) → as_block g.axes (whole_of g) ≡ whole (sides_of g)
block_whole g = rw (three g.sides g.three) (whole_on g.axes _ _ _ g.axes_fit)

-- the tree below the whole grid, written where no node was cut, is the rule's splits
pub whole_tree : (h : Halving) (n : ℕ) (ws : List ℕ) → n ≡ 2 ^ h.depth - 1
    → fill (edition_of h.edition) (sides_of h.grid) ws h.depth h.first (as_block h.grid.axes (whole_of h.grid)) 1 (replicate n uncut) ≡ splits_by (rule_of h) ws
unfolding splits_of
whole_tree h n ws l = rw (l, block_whole h.grid)

module _ (h : Halving) {ws splits ids : List ℕ} (r : Accepted (rule_of h) ws splits ids) where
  pub first_axis : h.first < h.grid.axes
  first_axis = omega (arith, axes_are h.grid, r.first_fits)

  pub ids_long : length ids ≡ on h.grid.sides 0 * (on h.grid.sides 1 * on h.grid.sides 2)
  ids_long = r.ids_long ∙ cells_are h.grid

  pub readable : Readable h.grid ws
  readable =
      let f = sides_fit h.grid (no_side_unfit r) in
      record {
        sides_fit = each f.0.1 f.1.1 f.2.1;
        long = omega (arith, r.weights_long, cells_are h.grid);
        light = record { few = omega (arith, r.few, r.weights_long); small = r.light };
      }
    where
      each : on h.grid.sides 0 ≤ 1024 → on h.grid.sides 1 ≤ 1024 → on h.grid.sides 2 ≤ 1024 → (a : ℕ) → a < 3 → on h.grid.sides a ≤ 1024
      each x y z zero l = x
      each x y z (suc zero) l = y
      each x y z (suc (suc zero)) l = z
      each x y z (suc (suc (suc a))) l = absurd (omega arith)

  pub whole_lies : Lies h.grid (whole_of h.grid)
  whole_lies = record { low_long = refl; sides_long = h.grid.three; inside = at_0 }
    where
      at_0 : (a : ℕ) → a < 3 → on (0 ∷ 0 ∷ 0 ∷ []) a + on h.grid.sides a ≤ on h.grid.sides a
      at_0 zero l = omega arith
      at_0 (suc zero) l = omega arith
      at_0 (suc (suc zero)) l = omega arith
      at_0 (suc (suc (suc a))) l = absurd (omega arith)

  pub whole_sound : Sound h.grid ws (record { block = whole_of h.grid; total = solid h.grid ws (whole_of h.grid) })
  whole_sound =
      let w : solid h.grid ws (whole_of h.grid) ≡ weight (sides_of h.grid) ws (as_block h.grid.axes (whole_of h.grid)) =
      sym (weight_is_solid h.grid ws (whole_of h.grid) whole_lies h.grid.one_layer) in
      record {
        lies = whole_lies;
        one_layer = h.grid.one_layer;
        few = omega (arith, w, weight_at_most_all (sides_of h.grid) ws (as_block h.grid.axes (whole_of h.grid)), weight_fits r);
        weight = w;
      }

  pub root_places : {n : ℕ} → n ≡ length splits → Places 1 h.depth n
  root_places e = rw (e ∙ r.splits_long) (record { room = room_root h.depth; short = omega (arith, pow_mono r.shallow) })
