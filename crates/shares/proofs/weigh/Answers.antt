-- Light weights have a sum that fits.
use Rattle.std.proofs.Common.{◌≡◌, ◌<◌, ◌^◌, ◌∙◌, sum, rules}
use Rattle.shares.proofs.Weights.{sum_is_total, sum_fits}
use Rattle.shares.proofs.weigh.Goals as goal

pub sum-requires-clause-fits : goal.sum-requires-clause-fits
sum-requires-clause-fits c = let fits : sum c.args.weights.now < 2 ^ 64 = sum_fits _ c.requires in search rules

pub returns : goal.returns
returns c = let is : c.sum.result ≡ sum c.args.weights.now = search rules in is ∙ sum_is_total _
