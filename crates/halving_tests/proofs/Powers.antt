-- One shifted by a depth is a power of two.
use Prim.Native.Nat.{ℕ, ◌*◌, ◌%◌, ◌^◌, ◌≤◌}
use native.Mathlib.Omega.{arith}
use mathlib.Core.Path.{◌≡◌, ◌∙◌}
use lib.Dec.{lit<}
use lib.Pow.{shl_exact}
use Rattle.rules.specs.Refusals.{top_depth}

pub power : (d : ℕ) → d ≤ top_depth → 1 * 2 ^ d % 18446744073709551616 ≡ 2 ^ d
power d h = shl_exact 1 d 64 (lit< tt) (omega arith) ∙ omega arith
