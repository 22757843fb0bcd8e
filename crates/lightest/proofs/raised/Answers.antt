-- The way ends at the root or where another part was the lightest.
use Rattle.std.proofs.Common.{arith}
use Rattle.lightest.proofs.Walk.{begin, here_inside, can_work, step, stop, past_the_root}
use Rattle.lightest.proofs.raised.Goals as goal

pub loop-node-init : goal.loop-node-init
loop-node-init c =
    let e = c.leaves_of-leaves.ensures.value in
    begin (rw (← e) at c.requires.knew) (omega (arith, e, c.requires.depth_bound.1))

pub bounds-tree-node : goal.bounds-tree-node
bounds-tree-node c =
    let e = c.leaves_of-leaves.ensures.value in
    omega (arith, c.leaves_of-leaves.ensures.few.1, here_inside c.loop-node.invariant (omega arith) c.args.depth e)

pub returns-then-tree-node : goal.returns-then-tree-node
returns-then-tree-node c =
    let e = c.leaves_of-leaves.ensures.value in
    rw e at (stop c.loop-node.invariant (omega arith) c.args.depth e c.if-tree-node.true)

pub work_out-requires : goal.work_out-requires
work_out-requires c =
    let e = c.leaves_of-leaves.ensures.value in
    can_work c.loop-node.invariant (omega arith) c.args.depth e c.leaves_of-leaves.ensures.few.1

pub loop-node-preserved : goal.loop-node-preserved
loop-node-preserved c =
    let e = c.leaves_of-leaves.ensures.value in
    rw c.work_out.ensures (step c.loop-node.invariant (omega arith) c.args.depth e c.leaves_of-leaves.ensures.few.1)

pub returns : goal.returns
returns c = rw c.leaves_of-leaves.ensures.value at (past_the_root c.loop-node.invariant (omega arith))
