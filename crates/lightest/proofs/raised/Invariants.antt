-- The way up is `Midway`.
use Rattle.lightest.proofs.Walk.{Midway}
use Rattle.lightest.proofs.raised.Given as goal

abbrev pub invariant-loop-node : goal.invariant-loop-node
invariant-loop-node l = Midway l.leaves l.id l.parts l.tree l.node

abbrev pub decreases-loop-node : goal.decreases-loop-node
decreases-loop-node l = l.node
