-- The sum is that of the sheets passed.
use Rattle.std.proofs.Common.{◌≡◌}
use Rattle.lines.specs.Stacks.{solid_sum}
use Rattle.lines.proofs.solid.Given as goal

abbrev pub invariant-loop-k : goal.invariant-loop-k
invariant-loop-k l = l.sum ≡ solid_sum l.weights l.start l.s l.k
