-- A finite f64 as a whole number: its value times 2^1074, so that 1 is the least f64 above zero. No finite f64 has a fraction left. Assumes
-- nothing.
use Rattle.std.specs.Prelude.{ℕ, ◌+◌, ◌-◌, ◌*◌, ◌^◌, ◌≡◌, cond, ℤ, pos, negsuc, neg_ℤ, Float}
use Rattle.std.specs.Float.{nan, inf, fin, binary64}
use Rattle.std.specs.Float.Ieee.{of_bits}

-- the kit's floats have any size and any number of digits; an f64 is what some bits stand for
abbrev pub IsF64 : Float → Type 0
IsF64 x = (bits : ℕ) × (of_bits binary64 bits ≡ x)

-- 2^e times 2^1074, for e from -1074 on: no f64 has a lower e. negsuc k is -(k + 1)
abbrev pub power_scaled : ℤ → ℕ
power_scaled (pos k) = 2 ^ (1074 + k)
power_scaled (negsuc k) = 2 ^ (1073 - k)

-- of m * 2^e, negative where s is true; 0 of a NaN or an infinity, which no call accepts
unfoldable pub scaled : Float → ℤ
scaled nan = pos 0
scaled (inf s) = pos 0
scaled (fin s m e) = cond s (neg_ℤ (pos (m * power_scaled e))) (pos (m * power_scaled e))
