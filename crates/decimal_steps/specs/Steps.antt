-- A decimal out of a word, a step a byte: a sign or none, digits with at most one point, and perhaps an exponent. Assumes nothing.
use Rattle.std.specs.Prelude.{ℕ, ◌+◌, ◌-◌, ◌*◌, Bool, true, false, ◌||◌, cond, eqb, ltb, Result, Ok, Err}
use Rattle.wholes.specs.Wholes.{is_digit}
use Rattle.exponents.specs.Exponents.{exponent_step}
use Rattle.exponents.specs.declared.Exponent.{Exponent}
use Rattle.exponents.specs.declared.Exponent.TheVariants as exponent
use Rattle.exponents.specs.declared.NotExponent.{NotExponent}
use Rattle.exponents.specs.declared.NotExponent.TheVariants as no-exponent
use Rattle.decimal_steps.specs.declared.Met.{Met}
use Rattle.decimal_steps.specs.declared.Met.TheVariants.{Start, Sign, Whole, Point, Decimals, Mark}
use Rattle.decimal_steps.specs.declared.NotDecimal.{NotDecimal}
use Rattle.decimal_steps.specs.declared.NotDecimal.TheVariants.{Odd, Long, Deep, High}

-- why a word is no decimal whose exponent is none: too far down is too deep
abbrev pub no_decimal : NotExponent → NotDecimal
no_decimal (no-exponent.Odd place) = Odd place
no_decimal (no-exponent.Low place) = Deep place
no_decimal (no-exponent.High place) = High place

-- e or E
abbrev pub is_mark : ℕ → Bool
is_mark b = eqb b 101 || eqb b 69

-- one byte more where a whole digit is wanted, and where a decimal is: at most 19 digits, nought in front not counted, and at most 44
-- decimals
abbrev pub whole_digit : Bool → ℕ → ℕ → ℕ → Result Met NotDecimal
whole_digit negative digits b at =
    cond (is_digit b)
    (cond (ltb 999999999999999999 digits) (Err (Long at)) (Ok (Whole negative (10 * digits + (b - 48)))))
    (Err (Odd at))

abbrev pub decimal_digit : Bool → ℕ → ℕ → ℕ → ℕ → Result Met NotDecimal
decimal_digit negative digits decimals b at =
    cond (is_digit b)
    (cond (ltb 999999999999999999 digits) (Err (Long at))
    (cond (ltb 43 decimals) (Err (Deep at)) (Ok (Decimals negative (10 * digits + (b - 48)) (decimals + 1)))))
    (Err (Odd at))

-- behind a sign or none, and at the start: 43 is +, 45 is -, 46 is the point
abbrev pub unsigned_byte : Bool → ℕ → ℕ → Result Met NotDecimal
unsigned_byte negative b at = cond (eqb b 46) (Ok (Point negative)) (whole_digit negative 0 b at)

abbrev pub first_byte : ℕ → ℕ → Result Met NotDecimal
first_byte b at = cond (eqb b 45) (Ok (Sign true)) (cond (eqb b 43) (Ok (Sign false)) (unsigned_byte false b at))

-- behind whole digits, and behind a point and digits
abbrev pub whole_byte : Bool → ℕ → ℕ → ℕ → Result Met NotDecimal
whole_byte negative digits b at =
    cond (eqb b 46) (Ok (Decimals negative digits 0)) (cond (is_mark b) (Ok (Mark negative digits 0 exponent.Start)) (whole_digit negative digits b at))

abbrev pub decimal_byte : Bool → ℕ → ℕ → ℕ → ℕ → Result Met NotDecimal
decimal_byte negative digits decimals b at =
    cond (is_mark b) (Ok (Mark negative digits decimals exponent.Start)) (decimal_digit negative digits decimals b at)

-- behind an e
abbrev pub marked : Bool → ℕ → ℕ → Result Exponent NotExponent → Result Met NotDecimal
marked negative digits decimals (Ok exponent) = Ok (Mark negative digits decimals exponent)
marked negative digits decimals (Err e) = Err (no_decimal e)

-- what has been met with one byte more
abbrev pub met_step : Met → ℕ → ℕ → Result Met NotDecimal
met_step Start b at = first_byte b at
met_step (Sign negative) b at = unsigned_byte negative b at
met_step (Whole negative digits) b at = whole_byte negative digits b at
met_step (Point negative) b at = decimal_digit negative 0 0 b at
met_step (Decimals negative digits decimals) b at = decimal_byte negative digits decimals b at
met_step (Mark negative digits decimals exponent) b at = marked negative digits decimals (exponent_step exponent b at)
