-- The largest of the sums passed.
use Rattle.std.proofs.Common.{◌≡◌, get_or}
use Rattle.rules.specs.Sums.{top}
use Rattle.tallies.proofs.largest.Given as goal

abbrev pub invariant-loop-sum : goal.invariant-loop-sum
invariant-loop-sum l = l.largest ≡ top (λ i. get_or l.sums i 0) l.sum-index
