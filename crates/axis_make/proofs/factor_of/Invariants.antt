-- `axis_make::factor_of` meets its contract. The loop's invariant: the descent from f is the descent from the start. Its measure is f's bit pattern.
-- Assumes nothing.
use mathlib.Core.Path.{◌≡◌}
use Prim.Native.Nat.{◌≤◌}
use lib.Dec.{T}
use lib.Ieee.{binary64, fits, to_bits}
use lib.Ieee.Positive.{positive}
use Rattle.rules.specs.Axis.{descend_from}
use Rattle.axis_laws.proofs.StepPattern.{last}
use Rattle.axis_make.proofs.factor_of.Given as goal

abbrev pub invariant-loop-f : goal.invariant-loop-f
invariant-loop-f l = record {
  n_positive : T (positive l.n);
  width_positive : T (positive l.width);
  f_fits : T (fits binary64 l.f);
  f_bound : to_bits binary64 l.f ≤ last;
  descends : descend_from l.n l.width l.f ≡ descend_from l.n l.width l.initial.f;
}

abbrev pub decreases-loop-f : goal.decreases-loop-f
decreases-loop-f l = to_bits binary64 l.f
