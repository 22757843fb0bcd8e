-- The exponent of a decimal, a step a byte: a sign or none, and digits. Assumes nothing.
use Rattle.std.specs.Prelude.{ℕ, ◌+◌, ◌-◌, ◌*◌, Bool, true, false, cond, eqb, ltb, Result, Ok, Err}
use Rattle.wholes.specs.Wholes.{is_digit}
use Rattle.exponents.specs.declared.Exponent.{Exponent}
use Rattle.exponents.specs.declared.Exponent.TheVariants.{Start, Sign, Digits}
use Rattle.exponents.specs.declared.NotExponent.{NotExponent}
use Rattle.exponents.specs.declared.NotExponent.TheVariants.{Odd, Low, High}

-- by a digit at a place, down or up
abbrev pub too_far : Bool → ℕ → NotExponent
too_far down at = cond down (Low at) (High at)

-- one byte more where a digit is wanted; at most three digits, nought in front not counted
abbrev pub exponent_digit : Bool → ℕ → ℕ → ℕ → Result Exponent NotExponent
exponent_digit down digits b at =
    cond (is_digit b) (cond (ltb 99 digits) (Err (too_far down at)) (Ok (Digits down (10 * digits + (b - 48))))) (Err (Odd at))

-- 45 is -, 43 is +
abbrev pub exponent_first : ℕ → ℕ → Result Exponent NotExponent
exponent_first b at = cond (eqb b 45) (Ok (Sign true)) (cond (eqb b 43) (Ok (Sign false)) (exponent_digit false 0 b at))

abbrev pub exponent_step : Exponent → ℕ → ℕ → Result Exponent NotExponent
exponent_step Start b at = exponent_first b at
exponent_step (Sign down) b at = exponent_digit down 0 b at
exponent_step (Digits down digits) b at = exponent_digit down digits b at
