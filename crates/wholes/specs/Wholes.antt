-- A whole number out of a word. Assumes nothing.
use Rattle.std.specs.Prelude.{ℕ, ◌+◌, ◌-◌, ◌*◌, List, [], ◌∷◌, Bool, not, ◌&&◌, cond, leb, ltb, Result, Ok, Err}
use Rattle.wholes.specs.declared.NotWhole.{NotWhole}
use Rattle.wholes.specs.declared.NotWhole.TheVariants.{Odd, Large, Empty}

-- 0 to 9
abbrev pub is_digit : ℕ → Bool
is_digit b = not (ltb b 48) && leb b 57

-- a number with one byte more behind it, which stands at a place
abbrev pub digit_on : ℕ → ℕ → ℕ → Result ℕ NotWhole
digit_on v b at =
    cond (is_digit b) (cond (leb (10 * v + (b - 48)) 18446744073709551615) (Ok (10 * v + (b - 48))) (Err (Large at))) (Err (Odd at))

-- with all bytes more of a list, the first of which stands at a place
abbrev pub digits_on : Result ℕ NotWhole → List ℕ → ℕ → Result ℕ NotWhole
digits_on (Err e) bs at = Err e
digits_on (Ok v) [] at = Ok v
digits_on (Ok v) (b ∷ bs) at = digits_on (digit_on v b at) bs (at + 1)

abbrev pub whole_of : List ℕ → Result ℕ NotWhole
whole_of [] = Err Empty
whole_of (b ∷ bs) = digits_on (Ok 0) (b ∷ bs) 0
