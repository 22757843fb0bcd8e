-- The digits so far are met as a whole number.
use Rattle.std.proofs.Common.{◌≡◌}
use Rattle.decimals.specs.Decimals.{MetBefore, whole_met}
use Rattle.decimals.proofs.whole_part.Given as goal

abbrev pub invariant-loop-i : goal.invariant-loop-i
invariant-loop-i l = MetBefore l.word (whole_met l.i l.digits) l.i × (l.i ≡ 0 → l.digits ≡ 0)
