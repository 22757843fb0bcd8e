-- Up to 2 ^ 53 one multiplication of two floats that are exact.
use Rattle.std.proofs.Common.{arith}
use Rattle.ratio.proofs.Exact.{times_exactly}
use Rattle.ratio.proofs.times_tens.Goals as goal

pub returns : goal.returns
returns c = times_exactly c.args.negative c.args.digits c.args.k _ _ (omega arith) c.signed.ensures c.power_of_ten.ensures
