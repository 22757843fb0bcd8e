-- The bytes from i on are still to be read behind the number of those before.
use Rattle.std.proofs.Common.{◌≡◌, drop, Ok}
use Rattle.wholes.specs.Wholes.{digits_on}
use Rattle.wholes.proofs.whole_of.Given as goal

abbrev pub invariant-loop-i : goal.invariant-loop-i
invariant-loop-i l = digits_on (Ok l.value) (drop l.i l.word) l.i ≡ digits_on (Ok 0) l.word 0
