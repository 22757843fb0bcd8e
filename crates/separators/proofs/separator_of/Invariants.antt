-- What is met of the bytes that are left, behind what has been met, is what is met of the text.
use Rattle.std.proofs.Common.{◌≡◌, false, drop}
use Rattle.std.specs.declared.ops.ControlFlow.TheVariants.{Continue}
use Rattle.separators.specs.Machines.{after}
use Rattle.separators.specs.Separators.{sought_step}
use Rattle.separators.specs.declared.Sought.TheVariants.{Blank}
use Rattle.separators.proofs.separator_of.Given as goal

abbrev pub invariant-loop-b : goal.invariant-loop-b
invariant-loop-b l = after sought_step (Continue l.met) (drop l.b-index l.text) l.b-index ≡ after sought_step (Continue (Blank false)) l.text 0
