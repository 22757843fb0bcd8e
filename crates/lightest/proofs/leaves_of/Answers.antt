-- At most 12 levels have from 1 to 4,096 leaves.
use Rattle.std.proofs.Common.{ℕ, ◌*◌, ◌%◌, ◌^◌, ◌≤◌, ◌≡◌, ◌∙◌, arith}
use lib.Dec.{lit<}
use lib.Pow.{shl_exact, pow_pos, pow_mono}
use Rattle.lightest.proofs.leaves_of.Goals as goal

shifted : (d : ℕ) → d ≤ 12 → 1 * 2 ^ d % 18446744073709551616 ≡ 2 ^ d
shifted d h = shl_exact 1 d 64 (lit< tt) (omega arith) ∙ omega arith

pub returns-clause-few : goal.returns-clause-few
returns-clause-few c = rw (shifted c.args.depth c.requires) (pow_pos c.args.depth, omega (arith, pow_mono c.requires))
