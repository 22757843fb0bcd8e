-- Running sums answer for the grid: they are small, an amount raises the part of its cell alone, and a bound is broken by them just where it
-- is by the weights.
use Prim.Native.Nat.{ℕ, ◌+◌, ◌*◌, ◌^◌, ◌≤◌, ◌<◌}
use native.Mathlib.Omega.{arith}
use mathlib.Core.Path.{◌≡◌, ◌∙◌}
use mathlib.Core.List.{List}
use lib.Dec.{eqb}
use lib.ListN.{get_or}
use lib.Pow.{pow_mono}
use Rattle.rules.specs.Sums.{pick}
use Rattle.rules.specs.Grid.{cells}
use Rattle.rules.specs.Refusals.{top_cells, top_depth, top_weight}
use Rattle.rules.specs.Halving.{Halving}
use Rattle.requests.specs.Order.{at}
use Rattle.requests.specs.Replay.{some_broken, broken}
use Rattle.tally_laws.specs.Weighed.{Weighed, Named, heavier}
use Rattle.tally_laws.specs.Tallied.{Tallied}
use Rattle.tally_laws.proofs.Kept.{all_small, part_small, lines_small}
use Rattle.tally_laws.proofs.Raised.{part_raised}
use Rattle.replay_laws.proofs.Bounds.{broken_ext}

module _ {sides ws ids ls ps : List ℕ} {T M : ℕ} (g : Weighed sides ws) (m : Tallied sides ws ids T M ls ps) where
  pub tally_small : (T ≤ top_weight * top_cells) × (M ≤ top_weight * top_cells)
  tally_small = (omega (arith, m.all, all_small g), omega (arith, m.heaviest, lines_small g))

  pub parts_small : (i : ℕ) → i < 4096 → at ps i ≤ top_weight * top_cells
  parts_small i l = omega (arith, m.parts i l, part_small g ids i)

  -- after an amount at a cell
  pub part_now : {T' M' : ℕ} {ls' ps' : List ℕ} (c v : ℕ) → c < cells sides → Tallied sides (heavier ws c v) ids T' M' ls' ps'
      → (i : ℕ) → i < 4096 → at ps' i ≡ at ps i + pick (eqb (get_or ids c 0) i) v 0
  part_now c v h m' i l = m'.parts i l ∙ rw (m.parts i l) (part_raised sides ws c v g.long h ids i)

-- ids of k levels have their parts in the array
pub few_parts : {k : ℕ} → k ≤ top_depth → 2 ^ k ≤ 4096
few_parts h = omega (arith, pow_mono h)

pub parts-named : {k : ℕ} {sides ids : List ℕ} → k ≤ top_depth → Named (2 ^ k) sides ids → Named 4096 sides ids
parts-named h n = record { long = n.long; below = λ c l. omega (arith, n.below c l, few_parts h) }

pub broken_is : (h : Halving) {ws ids ls ps : List ℕ} {T M : ℕ} → h.depth ≤ top_depth → Tallied h.sides ws ids T M ls ps
    → some_broken h.depth (at ps) T M ≡ broken h ws ids
unfolding broken
broken_is h k m = rw (m.all, m.heaviest) (broken_ext h.depth _ _ _ _ (λ i l. m.parts i (omega (arith, l, few_parts k))))
