-- The leaves are from 1 to 4,096, so the tree of zeros has none worked out yet, and each step works out one.
use Rattle.std.proofs.Common.{arith}
use Rattle.lightest.proofs.Making.{nothing_made, can_make, one_more}
use Rattle.lightest.proofs.make.Goals as goal

pub loop-node-init : goal.loop-node-init
loop-node-init c = nothing_made _ c.leaves_of-leaves.ensures.few.0

pub work_out-requires : goal.work_out-requires
work_out-requires c =
    can_make c.loop-node.invariant (omega arith) c.leaves_of-leaves.ensures.few.1 c.args.depth c.leaves_of-leaves.ensures.value

pub loop-node-preserved : goal.loop-node-preserved
loop-node-preserved c =
    rw c.work_out.ensures (one_more c.loop-node.invariant (omega arith) c.leaves_of-leaves.ensures.few.1)
