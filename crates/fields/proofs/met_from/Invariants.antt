-- What is met of the bytes that are left, behind what has been met, is what is met of the field.
use Rattle.std.proofs.Common.{◌≡◌, ◌+◌, drop}
use Rattle.std.specs.declared.ops.ControlFlow.TheVariants.{Continue}
use Rattle.separators.specs.Machines.{after}
use Rattle.fields.specs.Fields.{field_step}
use Rattle.fields.specs.declared.Met.TheVariants.{Open}
use Rattle.fields.proofs.met_from.Given as goal

abbrev pub invariant-loop-n : goal.invariant-loop-n
invariant-loop-n l =
    after (field_step l.separator) (Continue l.met) (drop l.n l.b-items) (l.from + l.n) ≡ after (field_step l.separator) (Continue Open) l.b-items l.from
