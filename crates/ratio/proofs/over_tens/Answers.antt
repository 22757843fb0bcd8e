-- Up to 2 ^ 53 and 10 ^ 22 one division of two floats that are exact.
use Rattle.std.proofs.Common.{◌∙◌, arith}
use Rattle.ratio.proofs.Exact.{over_exactly, none_over}
use Rattle.ratio.proofs.over_tens.Goals as goal

pub returns-then-digits-eq0 : goal.returns-then-digits-eq0
returns-then-digits-eq0 c = rw c.if-digits-eq0.true (c.signed.ensures ∙ none_over c.args.negative c.args.k)

pub returns : goal.returns
returns c = over_exactly c.args.negative c.args.digits c.args.k _ _ (omega arith) c.signed-2.ensures c.power_of_ten.ensures
