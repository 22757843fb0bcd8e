-- The search has not ended before the cut, and `before` is one line before it.
use Rattle.std.proofs.Common.{◌≡◌}
use Rattle.median.proofs.Search.{At}
use Rattle.median.proofs.weighted_median.Given as goal

abbrev pub invariant-loop-line : goal.invariant-loop-line
invariant-loop-line l = (l.cut.position ≡ l.line-index) × At l.lines l.lo l.before l.cut
