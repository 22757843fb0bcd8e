-- Each line passed has its weight, and the rest is as it was.
use Rattle.std.proofs.Common.{◌≡◌, ◌++◌, drop}
use Rattle.rules.specs.Sums.{list}
use Rattle.lines.specs.Stacks.{line_of}
use Rattle.lines.proofs.line_sums.Given as goal

abbrev pub invariant-loop-i : goal.invariant-loop-i
invariant-loop-i l = l.sums ≡ list (line_of l.weights l.start l.jump l.s) l.i ++ drop l.i l.initial.sums
