-- A u64 has two limbs.
use Rattle.std.proofs.Common.{arith}
use Rattle.wide.specs.Value.{value}
use Rattle.wide.proofs.WideFromU64.from.Goals as goal

pub returns : goal.returns
unfolding value
returns c = omega arith
