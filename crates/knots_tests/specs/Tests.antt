-- The tests of a call on points: a list of points for each axis, from x on, and so many indices. Assumes nothing.
use Rattle.std.specs.Prelude.{ℕ, Bool, not, eqb, List, [], ◌∷◌, ◌++◌, map, length, Float}
use Rattle.rules.specs.Refusals.{Test, test, order_over, no_points, lengths_off, index_tests}
use Rattle.rules.specs.declared.refusal.Refusal.TheVariants.{Order, NoPoints, Lengths, Value}
use Rattle.rules.specs.Knots.{some_unfit, some_thin}

-- how many points there are, and the lengths of the slices that are to be as long
abbrev pub count : List (List Float) → ℕ
count [] = 0
count (xs ∷ axes) = length xs

abbrev pub lengths : List (List Float) → ℕ → List ℕ
lengths [] m = m ∷ []
lengths (xs ∷ axes) m = map length axes ++ (m ∷ [])

-- a slice of points that is not as long as m
abbrev pub differs : ℕ → List Float → Bool
differs m xs = not (eqb (length xs) m)

-- of the order, of n points, and of the lengths of the other slices: 1, 4, 5
unfoldable pub shape_tests : ℕ → ℕ → ℕ → List ℕ → List Test
shape_tests most order n lengths = test (order_over most order) Order ∷ test (no_points n) NoPoints ∷ test (lengths_off n lengths) Lengths ∷ []

-- and of all values: 6
abbrev pub point_tests : ℕ → ℕ → List (List Float) → ℕ → List Test
point_tests most order axes m = shape_tests most order (count axes) (lengths axes m) ++ (test (some_unfit axes) Value ∷ [])

-- of a call on the axes over the points
abbrev pub over_tests : ℕ → ℕ → List (List Float) → ℕ → List Test
over_tests most order axes m = index_tests most order (count axes) (lengths axes m) (some_unfit axes) (some_thin axes)
