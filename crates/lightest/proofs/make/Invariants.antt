-- The nodes from the one that was last on are worked out.
use Rattle.std.proofs.Common.{◌-◌}
use Rattle.lightest.proofs.Making.{Made}
use Rattle.lightest.proofs.make.Given as goal

abbrev pub invariant-loop-node : goal.invariant-loop-node
invariant-loop-node l = Made l.leaves l.parts l.tree (l.node - 1)
