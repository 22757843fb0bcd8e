-- `axis_make::next_down` meets its contract: neither the value nor the one below it is a NaN. Assumes nothing.
use mathlib.Core.Path.{sym, refl, subst}
use mathlib.Core.Bool.{Bool, not}
use lib.Dec.{T}
use Rattle.rules.specs.Axis.{next_down}
use Rattle.axis_laws.proofs.StepPattern.{upward_of_pattern, no_nan, step_no_nan}
use Rattle.axis_make.proofs.next_down.Goals as goal

pub float_to_bits-result : goal.float_to_bits-result
float_to_bits-result c = subst (λ (t : Bool). T (not t)) (sym (no_nan c.args.f (upward_of_pattern c.args.f c.requires.f_bound))) tt

pub float_from_bits-result : goal.float_from_bits-result
float_from_bits-result c = subst (λ (t : Bool). T (not t)) (sym (step_no_nan c.args.f c.requires.bound c.requires.f_bound)) tt

pub returns : goal.returns
unfolding next_down
returns c = refl
