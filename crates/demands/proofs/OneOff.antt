-- REQUEST 14/14: "for each axis that isn't flat and each accepted value, show that the cell differs by at most 1 from the whole part of
-- (value - low)·2^order / (high - low), where the differences are exact and not rounded. State it over whole numbers: each finite f64 read as a
-- whole number over a common power of two, and the quotient compared by products." And so of each point that is indexed, and the cell is exact where
-- the quotient is farther from a border than 2^order / 2^49 of a cell. Assumes nothing.
use Prim.Native.Nat.{ℕ, ◌+◌, ◌^◌, ◌≤◌, ◌<◌}
use mathlib.Core.Path.{◌≡◌}
use mathlib.Core.Bool.{cond}
use mathlib.Core.List.{List}
use lib.Dec.{T}
use lib.IntN.{pos, neg_ℤ}
use lib.Ieee.{Float, binary64, fits}
use lib.Ieee.Exact.{HasValue}
use lib.Ieee.Scale.{finite}
use Rattle.rules.specs.Refusals.{first_of, axis_tests}
use Rattle.rules.specs.Axis.{axis_of, cell_of}
use Rattle.rules.specs.declared.Axis.{Axis}
use Rattle.std.specs.Prelude.{Ok}
use Rattle.rules.specs.declared.Extent.{Extent}
use Rattle.axis_laws.proofs.SubMono.{minus}
use Rattle.requests.specs.Scaled.{IsF64, scaled}
use Rattle.requests.specs.Rounding.{AtMostOneOff, NearOn, CellAtMostOneOff, AxisIsF64, RecordAtMostOneOff, AllF64, KnotAtMostOneOff, NearPoints2, NearPoints3, IndexAtMostOneOff2, IndexAtMostOneOff3, ExtentIsF64}
use Rattle.knots_given.specs.Given.{index_on2, index_on3, axis_in, index_in2, index_in3}
use Rattle.rounding_laws.proofs.ScaledValue.{f64_fits, fits_f64, scaled_value}
use Rattle.rounding_laws.proofs.DifferByOne.{whole_part, differ_by_one}
use Rattle.rounding_laws.proofs.CellAtMostOneOff.{cell_at_most_one_off, record_at_most_one_off, made_at_most_one_off}
use Rattle.rounding_laws.proofs.KnotAtMostOneOff.{knot_at_most_one_off}
use Rattle.rounding_laws.proofs.IndexAtMostOneOff.{on_at_most_one_off_2d, on_at_most_one_off_3d, in_at_most_one_off_2d, in_at_most_one_off_3d, index_at_most_one_off_2d, index_at_most_one_off_3d}

-- "each finite f64": a float that the kit's format of 64 bits holds is what some bits stand for, and no other is
pub one_off_f64 : (x : Float) → T (fits binary64 x) → IsF64 x
one_off_f64 = fits_f64

pub one_off_no_other : (x : Float) → IsF64 x → T (fits binary64 x)
one_off_no_other = f64_fits

-- "each finite f64 read as a whole number over a common power of two": the kit's value of x is n / 2^1074 with its sign, and scaled x that n
pub one_off_reading : (x : Float) → T (finite x) → IsF64 x → (n : ℕ) × HasValue x (minus x) n (2 ^ 1074) × (scaled x ≡ cond (minus x) (neg_ℤ (pos n)) (pos n))
one_off_reading x is f64 = scaled_value x is (f64_fits x f64)

-- "differs by at most 1 from the whole part", compared by products
pub one_off_differs : (across whole order : ℕ) → 0 < whole → (c : ℕ) → AtMostOneOff across whole order c
    → (c ≤ whole_part across whole order + 1) × (whole_part across whole order ≤ c + 1)
one_off_differs = differ_by_one

pub one_off_cell : CellAtMostOneOff
one_off_cell = cell_at_most_one_off

pub one_off_record : RecordAtMostOneOff
one_off_record = record_at_most_one_off

pub one_off_knot : KnotAtMostOneOff
one_off_knot = knot_at_most_one_off

pub one_off_index_2d : IndexAtMostOneOff2
one_off_index_2d = index_at_most_one_off_2d

pub one_off_index_3d : IndexAtMostOneOff3
one_off_index_3d = index_at_most_one_off_3d

-- of the axis that low, high and order make
pub one_off_made : (low high value : Float) (order c : ℕ) → IsF64 low → IsF64 high → IsF64 value → first_of (axis_tests low high order) ≡ 0
    → cell_of (axis_of low high order) value ≡ Ok c → NearOn (axis_of low high order) value c
one_off_made = made_at_most_one_off

-- of points on given axes, by their records
pub one_off_on_2d : (xs ys : List Float) (xaxis yaxis : Axis) (order : ℕ) (before : List ℕ) → AllF64 xs → AllF64 ys → AxisIsF64 xaxis → AxisIsF64 yaxis
    → (index_on2 xs ys xaxis yaxis order before).number ≡ 0 → NearPoints2 xs ys xaxis yaxis order (index_on2 xs ys xaxis yaxis order before).indices
one_off_on_2d = on_at_most_one_off_2d

pub one_off_on_3d : (xs ys zs : List Float) (xaxis yaxis zaxis : Axis) (order : ℕ) (before : List ℕ) → AllF64 xs → AllF64 ys → AllF64 zs
    → AxisIsF64 xaxis → AxisIsF64 yaxis → AxisIsF64 zaxis
    → (index_on3 xs ys zs xaxis yaxis zaxis order before).number ≡ 0 → NearPoints3 xs ys zs xaxis yaxis zaxis order (index_on3 xs ys zs xaxis yaxis zaxis order before).indices
one_off_on_3d = on_at_most_one_off_3d

-- and by their low and high
pub one_off_in_2d : (xs ys : List Float) (x y : Extent) (order : ℕ) (before : List ℕ) → AllF64 xs → AllF64 ys → ExtentIsF64 x → ExtentIsF64 y
    → (index_in2 xs ys x y order before).number ≡ 0 → NearPoints2 xs ys (axis_in x order) (axis_in y order) order (index_in2 xs ys x y order before).indices
one_off_in_2d = in_at_most_one_off_2d

pub one_off_in_3d : (xs ys zs : List Float) (x y z : Extent) (order : ℕ) (before : List ℕ) → AllF64 xs → AllF64 ys → AllF64 zs
    → ExtentIsF64 x → ExtentIsF64 y → ExtentIsF64 z
    → (index_in3 xs ys zs x y z order before).number ≡ 0 → NearPoints3 xs ys zs (axis_in x order) (axis_in y order) (axis_in z order) order (index_in3 xs ys zs x y z order before).indices
one_off_in_3d = in_at_most_one_off_3d
