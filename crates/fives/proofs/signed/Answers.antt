-- A rounded number's negation is the rounded negative.
use Rattle.std.proofs.Common.{ap, ◌∙◌}
use lib.Ieee.{binary64, of_int, neg}
use Rattle.ratio_laws.proofs.Exactly.{neg-round}
use Rattle.fives.proofs.signed.Goals as goal

pub returns-then-negative : goal.returns-then-negative
unfolding of_int
returns-then-negative c = rw c.if-negative.true (ap neg c.nearest_u64_to_f64-top.ensures ∙ neg-round binary64 c.args.whole 1)

pub returns : goal.returns
unfolding of_int
returns c = rw c.if-negative.false c.nearest_u64_to_f64-top.ensures
