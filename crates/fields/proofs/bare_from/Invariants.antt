-- What is met of the bytes that are left, behind what has been met, is what is met of the field.
use Rattle.std.proofs.Common.{◌≡◌, ◌+◌, drop}
use Rattle.std.specs.declared.ops.ControlFlow.TheVariants.{Continue}
use Rattle.separators.specs.Machines.{after}
use Rattle.fields.specs.Fields.{bare_step}
use Rattle.fields.proofs.bare_from.Given as goal

abbrev pub invariant-loop-n : goal.invariant-loop-n
invariant-loop-n l =
    after (bare_step l.separator) (Continue l.end) (drop l.n l.b-items) (l.start + l.n) ≡ after (bare_step l.separator) (Continue l.start) l.b-items l.start
