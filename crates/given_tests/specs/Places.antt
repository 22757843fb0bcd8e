-- Questions by their places in the list. Assumes nothing.
use Rattle.std.specs.Prelude.{ℕ, suc, List, [], ◌∷◌, get_or}
use Rattle.rules.specs.Refusals.{Test, refuse}
use Rattle.knots_given.specs.Given.{Given, questions, asked_of}

-- the place of the first test that passes, counted from 0; the length of the list where none does
abbrev pub first_place : List Test → ℕ
first_place [] = 0
first_place (t ∷ ts) = refuse t.passes 0 (suc (first_place ts))

-- the same of what is asked of several axes
abbrev pub place : ℕ → List Given → ℕ
place order axes = first_place (asked_of axes (questions order))

-- of one axis
abbrev pub place_of : Given → ℕ → ℕ
place_of g order = place order (g ∷ [])

-- the questions' numbers in order (proofs/Places.antt, `number_at_the_earliest`), and the one at a place; 0 behind the last
abbrev pub question_numbers : List ℕ
question_numbers = 6 ∷ 8 ∷ 7 ∷ 8 ∷ 6 ∷ 8 ∷ []

abbrev pub number_at_place : ℕ → ℕ
number_at_place i = get_or question_numbers i 0
