-- What has been met of the digits, and of a point and digits, says the value where nothing follows.
use Rattle.std.proofs.Common.{arith}
use Rattle.decimals.proofs.Digits.{is_whole, point_more, whole_word, decimal_word}
use Rattle.decimals.proofs.decimal_of.Goals as goal

pub returns-then-next-word : goal.returns-then-next-word
returns-then-next-word c =
    whole_word c.args.word.now _ _ _ c.if-next-word.true (rw (is_whole _ _ c.if-next-eq0.false) c.whole_part-whole.ensures) c.times_tens.ensures

pub decimal_part-digits-requires : goal.decimal_part-digits-requires
decimal_part-digits-requires c = point_more c.args.word.now _ _ c.if-next-eq0.false (omega arith) c.whole_part-whole.ensures

pub returns-then-last-word : goal.returns-then-last-word
returns-then-last-word c =
    let p = c.decimal_part-digits.ensures in
    decimal_word c.args.word.now _ _ _ c.if-last-word.true _ p.met_before p.few c.over_tens.ensures
