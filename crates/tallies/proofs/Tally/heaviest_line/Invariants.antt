-- The heaviest line across the axes passed.
use Rattle.std.proofs.Common.{◌≡◌, ◌+◌, ◌*◌, get_or}
use Rattle.rules.specs.Sums.{top}
use Rattle.rules.specs.Grid.{on}
use Rattle.tallies.proofs.Tally.heaviest_line.Given as goal

abbrev pub invariant-loop-axis : goal.invariant-loop-axis
invariant-loop-axis l = l.heaviest ≡ top (λ a. top (λ j. get_or l.self.lines (a * 1024 + j) 0) (on l.sides a)) l.axis
