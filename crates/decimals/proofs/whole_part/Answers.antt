-- A digit more is met as a whole number of one digit more.
use Rattle.std.proofs.Common.{arith, sym}
use Rattle.decimals.proofs.Digits.{whole_more}
use Rattle.decimals.proofs.whole_part.Goals as goal

pub loop-i-preserved : goal.loop-i-preserved
loop-i-preserved c =
    let at = c.loop-i in (
      rw c.with_digit-digits.ensures
          (whole_more c.args.word.now at.digits at.i c.if-digits-gt999999999999999999.false (sym c.if-not-is_digit.ensures) at.invariant.1 at.invariant.0),
      λ z. absurd (omega arith),
    )
