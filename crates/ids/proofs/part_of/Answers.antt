-- `part_of` meets its contract: the way that is left from the node is the rest of the cell's way.
use Rattle.std.proofs.Common.{arith}
use Rattle.rules.specs.Halving.{next_axis}
use Rattle.ids.proofs.Way.{node_small, leftwards, rightwards, arrived}
use Rattle.ids.proofs.part_of.Goals as goal
use Rattle.ids.proofs.part_of.Goals.{then-at-splits, else-at-splits}

pub bounds-splits-node : goal.bounds-splits-node
bounds-splits-node g c = omega (arith, node_small c.loop-level.invariant c.loop-level-test.true)

pub loop-level-preserved : goal.loop-level-preserved
unfolding next_axis
loop-level-preserved g c =
    let v = c.loop-level.invariant in
    let l = c.loop-level-test.true in
    elim c.if-at-splits.branch [
      | then-at-splits w ↦ rw (w.node-is, w.id-is) (leftwards v l (omega (arith, w.if-at-splits.true)))
      | else-at-splits w ↦ rw (w.node-is, w.id-is) (rightwards v l (omega (arith, w.if-at-splits.false)))
    ]

pub returns : goal.returns
returns g c = arrived c.loop-level.invariant c.loop-level-test.false
