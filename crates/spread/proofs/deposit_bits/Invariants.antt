-- No step changes what the deposit comes to.
use Rattle.std.proofs.Common.{◌≡◌}
use Rattle.rules.specs.Curve.{deposit_of}
use Rattle.spread.specs.Depositing.{comes_to}
use Rattle.spread.proofs.deposit_bits.Given as goal

abbrev pub invariant-loop-d : goal.invariant-loop-d
invariant-loop-d l = comes_to l.d ≡ deposit_of l.source l.mask

abbrev pub decreases-loop-d : goal.decreases-loop-d
decreases-loop-d l = l.d.srcbit
