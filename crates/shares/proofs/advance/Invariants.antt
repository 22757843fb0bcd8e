-- The splits passed are reached.
use Rattle.std.proofs.Common.{◌-◌}
use Rattle.shares.proofs.Reached.{Reached}
use Rattle.shares.proofs.advance.Given as goal

abbrev pub invariant-loop-r : goal.invariant-loop-r
invariant-loop-r l = Reached l.k l.n l.all l.sum l.have (l.r - 1)
