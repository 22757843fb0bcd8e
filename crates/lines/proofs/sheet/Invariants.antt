-- The sum is that of the runs passed, and `at` is where the next begins.
use Rattle.std.proofs.Common.{◌≡◌, ◌+◌, ◌*◌}
use Rattle.lines.specs.Stacks.{sheet_sum}
use Rattle.lines.proofs.sheet.Given as goal

abbrev pub invariant-loop-j : goal.invariant-loop-j
invariant-loop-j l = (l.at ≡ l.start + l.s.row * l.j) × (l.sum ≡ sheet_sum l.weights l.start l.s l.j)
