-- A decimal out of a word: what its bytes are, step by step, and then one rounding of the exact value. Assumes nothing.
use Rattle.std.specs.Prelude.{ℕ, zero, suc, ◌+◌, ◌-◌, ◌*◌, ◌^◌, ◌≤◌, ◌≡◌, Bool, true, false, cond, List, [], ◌∷◌, length, drop, ltb, Float, Result, Ok, Err}
use Rattle.std.specs.Float.{binary64}
use Rattle.std.specs.Float.Ieee.{round}
use Rattle.decimal_steps.specs.Steps.{met_step}
use Rattle.decimal_steps.specs.declared.Met.{Met}
use Rattle.decimal_steps.specs.declared.Met.TheVariants as met
use Rattle.decimal_steps.specs.declared.NotDecimal.{NotDecimal}
use Rattle.decimal_steps.specs.declared.NotDecimal.TheVariants.{Deep, High, Short}
use Rattle.exponents.specs.declared.Exponent.{Exponent}
use Rattle.exponents.specs.declared.Exponent.TheVariants as exponent

-- digits * 10 ^ up / 10 ^ down, rounded once to the nearest f64; of the two powers that are left one is 1
abbrev pub value_of : Bool → ℕ → ℕ → ℕ → ℕ → Result Float NotDecimal
value_of negative digits up down at =
    cond (ltb 22 (up - down)) (Err (High at))
    (cond (ltb 44 (down - up)) (Err (Deep at)) (Ok (round binary64 negative (digits * 10 ^ (up - down)) (10 ^ (down - up)))))

-- what a word is that ends at a place, with an exponent and without
abbrev pub powered_of : Bool → ℕ → ℕ → Exponent → ℕ → Result Float NotDecimal
powered_of negative digits decimals exponent.Start at = Err (Short at)
powered_of negative digits decimals (exponent.Sign down) at = Err (Short at)
powered_of negative digits decimals (exponent.Digits true power) at = value_of negative digits 0 (decimals + power) at
powered_of negative digits decimals (exponent.Digits false power) at = value_of negative digits power decimals at

abbrev pub end_of : Met → ℕ → Result Float NotDecimal
end_of met.Start at = Err (Short at)
end_of (met.Sign negative) at = Err (Short at)
end_of (met.Whole negative digits) at = value_of negative digits 0 0 at
end_of (met.Point negative) at = Err (Short at)
end_of (met.Decimals negative digits decimals) at = value_of negative digits 0 decimals at
end_of (met.Mark negative digits decimals exponent) at = powered_of negative digits decimals exponent at

-- what a word is whose bytes from a place on are still to come
abbrev pub word_from : Result Met NotDecimal → List ℕ → ℕ → Result Float NotDecimal
word_from (Err e) bs at = Err e
word_from (Ok met) [] at = end_of met at
word_from (Ok met) (b ∷ bs) at = word_from (met_step met b at) bs (at + 1)

abbrev pub decimal_of : List ℕ → Result Float NotDecimal
decimal_of w = word_from (Ok met.Start) w 0

-- what has been met before a place of a word
abbrev pub MetBefore : List ℕ → Met → ℕ → Type 0
MetBefore w m at = (at ≤ length w) × (word_from (Ok m) (drop at w) at ≡ decimal_of w)

-- of n bytes that are the digits of a whole number
abbrev pub whole_met : ℕ → ℕ → Met
whole_met zero digits = met.Start
whole_met (suc n) digits = met.Whole false digits
