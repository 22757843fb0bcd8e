-- The range of a digit. Assumes nothing.
use Prim.Native.Nat.{ℕ, ◌≤◌}
use mathlib.Core.Path.{◌≡◌, sym, subst}
use mathlib.Core.Bool.{true, not}
use lib.Dec.{T, ltb, leb, leb→le, nltb→le}
use lib.Ieee.Fits.{and_l, and_r}
use Rattle.wholes.specs.Wholes.{is_digit}

pub digit_range : (b : ℕ) → is_digit b ≡ true → (48 ≤ b) × (b ≤ 57)
digit_range b h =
    let t : T (is_digit b) = subst T (sym h) tt in
    (nltb→le b 48 (and_l (not (ltb b 48)) (leb b 57) t), leb→le b 57 (and_r (not (ltb b 48)) (leb b 57) t))
