-- A digit more is met as one decimal more.
use Rattle.std.proofs.Common.{arith, sym}
use Rattle.decimals.proofs.Digits.{decimal_more, byte_from}
use Rattle.decimals.proofs.decimal_part.Goals as goal

pub loop-n-preserved : goal.loop-n-preserved
loop-n-preserved c =
    let at = c.loop-n in
    let byte = byte_from c.args.word.now c.args.from at.n (omega arith) in (
      rw (c.with_digit-digits.ensures, byte)
          (decimal_more c.args.word.now at.digits at.n c.args.from c.if-digits-gt999999999999999999.false (rw byte at (sym c.if-not-is_digit.ensures)) c.if-n-gt43.false at.invariant.0),
      omega arith,
    )
