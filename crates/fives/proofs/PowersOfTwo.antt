-- The bits of a power of two are its exponent, and are no NaN's. Assumes nothing.
use Rattle.std.proofs.Common.{◌≡◌, ℕ, suc, ◌+◌, ◌-◌, ◌*◌, ◌^◌, ◌≤◌, Bool, false, not, T, sym, ap, ◌∙◌, subst, mul_comm, arith}
use lib.Ieee.{Float, nan, inf, fin, binary64, is_nan, nan_bits, of_bits}
use lib.Ieee.Bits.{nan_bits_is}
use lib.Ieee.Exact.{HasValue}
use Rattle.ratio_laws.proofs.Exactly.{power_bits}

units : (u d : ℕ) → d ≤ 255 → u + 1074 ≡ u + 1074 - d + d
units u d h = omega arith

normal : (u d : ℕ) → d ≤ 255 → 53 ≤ u + 1074 - d
normal u d h = omega arith

exponent : (u d : ℕ) → d ≤ 255 → suc (u + 1074 - d) - 53 + 1 ≡ 1023 + u - d
exponent u d h = omega arith

small : (u : ℕ) → u ≤ 255 → u ≤ 1023
small u h = omega arith

pub power_value : (u d : ℕ) → u ≤ 255 → d ≤ 255 → HasValue (of_bits binary64 (2 ^ 52 * (1023 + u - d))) false (2 ^ u) (2 ^ d)
power_value u d U D =
    subst (λ (z : ℕ). HasValue (of_bits binary64 z) false (2 ^ u) (2 ^ d)) (ap (λ (z : ℕ). z * 2 ^ 52) (exponent u d D) ∙ mul_comm (1023 + u - d) (2 ^ 52))
    (power_bits binary64 u d (u + 1074 - d) (units u d D) (normal u d D) (small u U))

some_number : (x : Float) (s : Bool) (a c : ℕ) → HasValue x s a c → T (not (is_nan x))
unfolding is_nan
some_number nan s a c h = absurd h
some_number (inf t) s a c h = tt
some_number (fin t m e) s a c h = tt

pub power_no_nan : (u d : ℕ) → u ≤ 255 → d ≤ 255 → T (not (nan_bits binary64 (2 ^ 52 * (1023 + u - d))))
power_no_nan u d U D = subst (λ (t : Bool). T (not t)) (sym (nan_bits_is binary64 (2 ^ 52 * (1023 + u - d)))) (some_number _ false (2 ^ u) (2 ^ d) (power_value u d U D))
