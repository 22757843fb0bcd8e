-- From a value to a cell, in f64, each operation rounded once. Assumes nothing.
use Rattle.std.specs.Prelude.{ℕ, zero, suc, ◌-◌, ◌^◌, Bool, true, false, not, ◌&&◌, cond, List, [], ◌∷◌, pos, eqb, Float, Result, Ok, Err}
use Rattle.std.specs.Float.{binary64}
use Rattle.std.specs.Float.Ieee.{sub, mul, div, lt, le, eq, of_int, to_bits, of_bits, is_nan, to_unsigned}
use Rattle.rules.specs.Refusals.{nought, width, axis_tests, cell_tests, answer_by}
use Rattle.rules.specs.declared.refusal.Refusal.{Refusal}
use Rattle.rules.specs.declared.Axis.{Axis}
use Rattle.rules.specs.declared.Axis.TheVariants.{Flat, Sloped}
use Rattle.rules.specs.declared.Extent.{Extent}

-- MAKING AN AXIS

-- n = 2^order
abbrev pub cell_count : ℕ → Float
cell_count order = of_int binary64 (pos (2 ^ order))

-- the next smaller f64 of one above zero
unfoldable pub next_down : Float → Float
next_down f = of_bits binary64 (to_bits binary64 f - 1)

-- while n <= w * f, f becomes the next smaller f64: over says whether that holds of f, and fuel is an upper bound of the steps
unfoldable pub descend : ℕ → Bool → Float → Float → Float → Float
unfolding next_down
descend zero over n w f = f
descend (suc fuel) true n w f = descend fuel (le n (mul binary64 w (next_down f))) n w (next_down f)
descend (suc fuel) false n w f = f

-- an f64 above zero has no more smaller ones above zero than its bit pattern says
abbrev pub descend_from : Float → Float → Float → Float
descend_from n w f = descend (to_bits binary64 f) (le n (mul binary64 w f)) n w f

-- the factor: n / width, stepped down
unfoldable pub factor_of : Float → Float → ℕ → Float
unfolding descend
factor_of low high order = descend_from (cell_count order) (width low high) (div binary64 (cell_count order) (width low high))

-- flat where the width is 0, else sloped with its factor
unfoldable pub axis_of : Float → Float → ℕ → Axis
unfolding factor_of
axis_of low high order = cond (eq (width low high) nought) (Flat low high order) (Sloped low high order (factor_of low high order))

unfoldable pub make_axis : Float → Float → ℕ → Result Axis Refusal
unfolding axis_of
make_axis low high order = answer_by (axis_tests low high order) (axis_of low high order)

-- THE CELL OF A VALUE

abbrev pub low_of : Axis → Float
low_of (Flat low high order) = low
low_of (Sloped low high order factor) = low

abbrev pub high_of : Axis → Float
high_of (Flat low high order) = high
high_of (Sloped low high order factor) = high

abbrev pub order_of : Axis → ℕ
order_of (Flat low high order) = order
order_of (Sloped low high order factor) = order

-- the same bits; no axis that is made has a NaN
unfoldable pub same_bits : Float → Float → Bool
same_bits f g = not (is_nan f) && eqb (to_bits binary64 f) (to_bits binary64 g)

-- whether an answer is this very axis, of which it copied low, high and order: the case and the factor tell
unfoldable pub is_anew : Result Axis Refusal → Axis → Bool
unfolding same_bits
is_anew (Ok (Flat l h o)) (Flat low high order) = true
is_anew (Ok (Flat l h o)) (Sloped low high order factor) = false
is_anew (Ok (Sloped l h o f)) (Flat low high order) = false
is_anew (Ok (Sloped l h o f)) (Sloped low high order factor) = same_bits factor f
is_anew (Err r) a = false

-- an axis record that making it anew does not give
unfoldable pub made_up : Axis → Bool
unfolding make_axis is_anew
made_up a = not (is_anew (make_axis (low_of a) (high_of a) (order_of a)) a)

-- factor * (value - low), its fraction dropped; 0 on a flat axis
unfoldable pub cell_on : Axis → Float → ℕ
cell_on (Flat low high order) value = 0
cell_on (Sloped low high order factor) value = to_unsigned 64 (mul binary64 factor (sub binary64 value low))

unfoldable pub cell_of : Axis → Float → Result ℕ Refusal
unfolding made_up cell_on
cell_of a value = answer_by (cell_tests (made_up a) (low_of a) (high_of a) value) (cell_on a value)

-- LOW AND HIGH OF POINTS

-- one more point: replaced only by a strictly smaller or larger value
unfoldable pub widen : Extent → Float → Extent
widen e x = record { low = cond (lt x e.low) x e.low; high = cond (lt e.high x) x e.high }

unfoldable pub widen_all : Extent → List Float → Extent
unfolding widen
widen_all e [] = e
widen_all e (x ∷ xs) = widen_all (widen e x) xs

-- start with the first point
unfoldable pub extent_of : List Float → Extent
unfolding widen_all
extent_of [] = record { low = nought; high = nought }
extent_of (x ∷ xs) = widen_all (record { low = x; high = x }) xs
