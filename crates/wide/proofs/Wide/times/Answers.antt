-- The columns are the products of the limbs.
use Rattle.std.proofs.Common.{ℕ, ◌+◌, ◌*◌, ◌≡◌, arith}
use Rattle.wide.specs.Value.{value, limb}
use Rattle.wide.proofs.Carry.{columns, columns_fit}
use Rattle.wide.proofs.Wide.times.Goals as goal

products : (hi mid lo s n : ℕ) → value hi mid lo ≡ n → lo * s + limb * (mid * s + limb * (hi * s)) ≡ n * s
unfolding value
products hi mid lo s n e = rw (← e) (omega arith)

pub invariant_of-result : goal.invariant_of-result
invariant_of-result c = columns_fit _ _ _ _ (products _ _ _ c.args.s c.args.self c.self.view_is) c.requires.fits

pub returns : goal.returns
returns c = columns _ _ _ _ (products _ _ _ c.args.s c.args.self c.self.view_is)
