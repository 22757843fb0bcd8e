-- How far rounding may move a cell (02, 14/14). Assumes nothing.
use Rattle.std.specs.Prelude.{ℕ, ◌+◌, ◌*◌, ◌^◌, ◌≤◌, ◌<◌, ◌≡◌, false, List, pos, ◌+ℤ◌, get_or, length, Float, [], ◌∷◌, Ok}
use Rattle.rules.specs.Sums.{any}
use Rattle.rules.specs.Refusals.{top2, nought, value_unfit}
use Rattle.rules.specs.Curve.{decode2, decode3}
use Rattle.rules.specs.Axis.{make_axis, cell_of}
use Rattle.rules.specs.Knots.{thin_over, axis_over, knot, index_all2, index_all3}
use Rattle.rules.specs.declared.Axis.{Axis}
use Rattle.rules.specs.declared.Axis.TheVariants.{Flat, Sloped}
use Rattle.rules.specs.declared.Extent.{Extent}
use Rattle.requests.specs.Scaled.{IsF64, scaled}

-- THE EXACT PLACE of a value: how far it and high lie above low, in steps of 2^-1074. These are whole numbers, and nothing is rounded
pub record Place (low high value : Float) : Type 0 where
  pub across : ℕ
  pub whole : ℕ
  pub to_value : scaled low +ℤ pos across ≡ scaled value
  pub to_high : scaled low +ℤ pos whole ≡ scaled high
  pub not_flat : 0 < whole

-- c differs by at most 1 from the whole part of across * 2^order / whole: c - 1 is at most that quotient, c + 2 is more
pub record AtMostOneOff (across whole order c : ℕ) : Type 0 where
  pub one_less_at_most : c * whole ≤ across * 2 ^ order + whole
  pub two_more_above : across * 2 ^ order < (c + 2) * whole

-- that quotient lies in cell q, by 2^order / 2^49 of a cell or more from the border to the cell below, and by more than that from the next
pub record Clear (across whole order q : ℕ) : Type 0 where
  pub from_below : 2 ^ 49 * (q * whole) + 2 ^ order * whole ≤ 2 ^ 49 * (across * 2 ^ order)
  pub from_above : 2 ^ 49 * (across * 2 ^ order) + 2 ^ order * whole < 2 ^ 49 * ((q + 1) * whole)

-- WHAT IS SAID OF A CELL c: it is at most 1 off, and exact where the place is clear of borders
pub record NearCell (low high value : Float) (order c : ℕ) : Type 0 where
  pub place : Place low high value
  pub one_off : AtMostOneOff place.across place.whole order c
  pub exact : (q : ℕ) → Clear place.across place.whole order q → c ≡ q

-- and of a cell on an axis: on a flat one it is 0
abbrev pub NearOn : Axis → Float → ℕ → Type 0
NearOn (Flat low high order) value c = c ≡ 0
NearOn (Sloped low high order factor) value c = NearCell low high value order c

-- F64S in records and lists
abbrev pub AxisIsF64 : Axis → Type 0
AxisIsF64 (Flat low high order) = IsF64 low × IsF64 high
AxisIsF64 (Sloped low high order factor) = IsF64 low × IsF64 high × IsF64 factor

abbrev pub ExtentIsF64 : Extent → Type 0
ExtentIsF64 e = IsF64 e.low × IsF64 e.high

abbrev pub AllF64 : List Float → Type 0
AllF64 xs = (j : ℕ) → j < length xs → IsF64 (get_or xs j nought)

-- THE STATEMENTS. Of every axis that is made and is not flat, and every value that has a cell on it
abbrev pub CellAtMostOneOff : Type 0
CellAtMostOneOff =
    (low high factor value : Float) (order c : ℕ) → IsF64 low → IsF64 high → IsF64 value
    → make_axis low high order ≡ Ok (Sloped low high order factor)
    → cell_of (Sloped low high order factor) value ≡ Ok c
    → NearCell low high value order c

-- of every axis record, whoever wrote it: one that is made up has no cell
abbrev pub RecordAtMostOneOff : Type 0
RecordAtMostOneOff = (a : Axis) (value : Float) (c : ℕ) → AxisIsF64 a → IsF64 value → cell_of a value ≡ Ok c → NearOn a value c

-- of every point's cell on the axis from the lowest to the highest of the points
abbrev pub KnotAtMostOneOff : Type 0
KnotAtMostOneOff =
    (xs : List Float) (order i : ℕ) → AllF64 xs → any value_unfit xs ≡ false → thin_over xs ≡ false → order ≤ top2 → i < length xs
    → NearOn (axis_over xs order) (get_or xs i nought) (knot xs order i)

-- of the cell that every point's index decodes to, on an axis for each coordinate
abbrev pub NearPoints2 : List Float → List Float → Axis → Axis → ℕ → List ℕ → Type 0
NearPoints2 xs ys xaxis yaxis order indices =
    (i : ℕ) → i < length xs
    → (x : ℕ) × (y : ℕ) × (decode2 (get_or indices i 0) order ≡ Ok (x ∷ y ∷ [])) × NearOn xaxis (get_or xs i nought) x × NearOn yaxis (get_or ys i nought) y

abbrev pub NearPoints3 : List Float → List Float → List Float → Axis → Axis → Axis → ℕ → List ℕ → Type 0
NearPoints3 xs ys zs xaxis yaxis zaxis order indices =
    (i : ℕ) → i < length xs
    → (x : ℕ) × (y : ℕ) × (z : ℕ) × (decode3 (get_or indices i 0) order ≡ Ok (x ∷ y ∷ z ∷ []))
    × NearOn xaxis (get_or xs i nought) x × NearOn yaxis (get_or ys i nought) y × NearOn zaxis (get_or zs i nought) z

-- where all points are indexed these are the axes over the points
abbrev pub NearKnots2 : List Float → List Float → ℕ → List ℕ → Type 0
NearKnots2 xs ys order = NearPoints2 xs ys (axis_over xs order) (axis_over ys order) order

abbrev pub NearKnots3 : List Float → List Float → List Float → ℕ → List ℕ → Type 0
NearKnots3 xs ys zs order = NearPoints3 xs ys zs (axis_over xs order) (axis_over ys order) (axis_over zs order) order

abbrev pub IndexAtMostOneOff2 : Type 0
IndexAtMostOneOff2 =
    (xs ys : List Float) (order : ℕ) (before : List ℕ) → AllF64 xs → AllF64 ys
    → (index_all2 xs ys order before).number ≡ 0 → NearKnots2 xs ys order (index_all2 xs ys order before).indices

abbrev pub IndexAtMostOneOff3 : Type 0
IndexAtMostOneOff3 =
    (xs ys zs : List Float) (order : ℕ) (before : List ℕ) → AllF64 xs → AllF64 ys → AllF64 zs
    → (index_all3 xs ys zs order before).number ≡ 0 → NearKnots3 xs ys zs order (index_all3 xs ys zs order before).indices
