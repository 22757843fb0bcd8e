-- Numbers of refusal: the limits, the test of each number, the order of tests of each call, and the number and values that each answer stands
-- for.
-- Assumes nothing.
use Rattle.std.specs.Prelude.{ℕ, zero, suc, ◌-◌, ◌*◌, ◌^◌, Bool, true, false, not, ◌&&◌, ◌||◌, List, [], ◌∷◌, length, eqb, leb, ltb, pos, negsuc, Float, ◌≡◌, ◌≢◌, Result, Ok, Err, MatchResult, cond}
use Rattle.std.specs.Float.{fin, binary64}
use Rattle.std.specs.Float.Ieee.{sub, lt, le}
use Rattle.rules.specs.Sums.{any}
use Rattle.rules.specs.Grid.{cells}
use Rattle.rules.specs.declared.refusal.Refusal.{Refusal}
use Rattle.rules.specs.declared.refusal.Refusal.TheVariants.{Order, Coordinate, Index, NoPoints, Lengths, Value, Thin, Outside, Sides, Depth, Weight, Counts, Edition, First, Cell}
use Rattle.rules.specs.declared.refusal.NoRefusal.{NoRefusal}
use Rattle.rules.specs.declared.Axis.{Axis}
use Rattle.rules.specs.declared.Axis.TheVariants.{Flat}

-- THE LIMITS

-- the highest order in 2D and of an axis, and in 3D
abbrev pub top2 : ℕ
top2 = 32

abbrev pub top3 : ℕ
top3 = 21

-- the longest side of a grid, the most cells, the most levels of a halving, the heaviest weight of a cell
abbrev pub top_side : ℕ
top_side = 1024

abbrev pub top_cells : ℕ
top_cells = 65536

abbrev pub top_depth : ℕ
top_depth = 12

abbrev pub top_weight : ℕ
top_weight = 16777215

-- THE NUMBERS

abbrev pub number_of : Refusal → ℕ
number_of Order = 1
number_of Coordinate = 2
number_of Index = 3
number_of NoPoints = 4
number_of Lengths = 5
number_of Value = 6
number_of Thin = 7
number_of Outside = 8
number_of Sides = 9
number_of Depth = 10
number_of Weight = 11
number_of Counts = 12
number_of Edition = 13
number_of First = 14
number_of Cell = 20

-- the refusal with this number, or the number itself where it is none's
abbrev pub NumberedBy : ℕ → Result Refusal NoRefusal → Type 0
NumberedBy n found = MatchResult found (λ r. number_of r ≡ n) (λ e. (e.0 ≡ n) × ((r : Refusal) → number_of r ≢ n))

-- THE TESTS

-- 1
abbrev pub order_over : ℕ → ℕ → Bool
order_over most order = ltb most order

-- 2: of the coordinates of a cell
abbrev pub coordinate_over : ℕ → List ℕ → Bool
coordinate_over order xs = any (leb (2 ^ order)) xs

-- 3: in d dimensions
abbrev pub index_over : ℕ → ℕ → ℕ → Bool
index_over d order index = leb (2 ^ (d * order)) index

-- 4: of the x slice's length
abbrev pub no_points : ℕ → Bool
no_points n = eqb n 0

-- 5: of the lengths of slices that are to have n places each
abbrev pub lengths_off : ℕ → List ℕ → Bool
lengths_off n lengths = any (λ m. not (eqb m n)) lengths

-- 5: of weights, ids and splits for k levels
abbrev pub grid_lengths_off : List ℕ → ℕ → ℕ → ℕ → ℕ → Bool
grid_lengths_off sides k weights ids splits = lengths_off (cells sides) (weights ∷ ids ∷ []) || lengths_off (2 ^ k - 1) (splits ∷ [])

-- 6: -2^20 <= value <= 2^20 fails of a NaN too
unfoldable pub value_unfit : Float → Bool
value_unfit x = not (le (fin true 1 (pos 20)) x && le x (fin false 1 (pos 20)))

-- +0.0
abbrev pub nought : Float
nought = fin false 0 (pos 0)

-- the rounded width of an axis
abbrev pub width : Float → Float → Float
width low high = sub binary64 high low

-- 7: above 0 and below 2^-20
unfoldable pub axis_thin : Float → Float → Bool
axis_thin low high = lt nought (width low high) && lt (width low high) (fin false 1 (negsuc 19))

-- 8
abbrev pub reversed : Float → Float → Bool
reversed low high = lt high low

abbrev pub outside : Float → Float → Float → Bool
outside low high value = lt value low || lt high value

-- 9
abbrev pub side_unfit : ℕ → Bool
side_unfit s = eqb s 0 || ltb top_side s

abbrev pub sides_unfit : List ℕ → Bool
sides_unfit sides = any side_unfit sides || ltb top_cells (cells sides)

-- 10
abbrev pub depth_over : ℕ → Bool
depth_over k = ltb top_depth k

-- 11
abbrev pub weight_over : List ℕ → Bool
weight_over ws = any (ltb top_weight) ws

-- 13
abbrev pub edition_unknown : ℕ → Bool
edition_unknown n = not (eqb n 1) && not (eqb n 2)

-- 14: of the axis that is cut first, of n axes from 0 on
abbrev pub first_unknown : ℕ → ℕ → Bool
first_unknown n first = leb n first

-- THE ORDER OF TESTS of each call, each written once, as a list

-- a test, and why a call that passes it is refused
pub record Test : Type 0 where
  pub passes : Bool
  pub refusal : Refusal

abbrev pub test : Bool → Refusal → Test
test b r = record { passes = b; refusal = r }

-- the number of the first test that passes, 0 where none does
abbrev pub refuse : Bool → ℕ → ℕ → ℕ
refuse true n later = n
refuse false n later = later

abbrev pub first_of : List Test → ℕ
first_of [] = 0
first_of (t ∷ ts) = refuse t.passes (number_of t.refusal) (first_of ts)

unfoldable pub encode_tests : ℕ → ℕ → List ℕ → List Test
encode_tests most order xs = test (order_over most order) Order ∷ test (coordinate_over order xs) Coordinate ∷ []

unfoldable pub decode_tests : ℕ → ℕ → ℕ → ℕ → List Test
decode_tests d most order index = test (order_over most order) Order ∷ test (index_over d order index) Index ∷ []

unfoldable pub axis_tests : Float → Float → ℕ → List Test
axis_tests low high order =
    test (order_over top2 order) Order
    ∷ test (any value_unfit (low ∷ high ∷ [])) Value
    ∷ test (reversed low high) Outside
    ∷ test (axis_thin low high) Thin ∷ []

-- of a value on an axis from low to high: made_up says that making the axis anew is refused or gives other bits
unfoldable pub cell_tests : Bool → Float → Float → Float → List Test
cell_tests made_up low high value = test made_up Outside ∷ test (value_unfit value) Value ∷ test (outside low high value) Outside ∷ []

-- of n points: the lengths of the other coordinate slices and of the index slice, all coordinates, and whether an axis is thin
unfoldable pub index_tests : ℕ → ℕ → ℕ → List ℕ → Bool → Bool → List Test
index_tests most order n lengths unfit thin =
    test (order_over most order) Order
    ∷ test (no_points n) NoPoints
    ∷ test (lengths_off n lengths) Lengths
    ∷ test unfit Value
    ∷ test thin Thin ∷ []

-- of an edition's number, the first of n axes, and a grid with these sides, k levels, its weights, and the lengths of ids and splits
unfoldable pub grid_tests : ℕ → ℕ → ℕ → List ℕ → ℕ → List ℕ → ℕ → ℕ → List Test
grid_tests edition n first sides k ws ids splits =
    test (edition_unknown edition) Edition
    ∷ test (first_unknown n first) First
    ∷ test (sides_unfit sides) Sides
    ∷ test (depth_over k) Depth
    ∷ test (grid_lengths_off sides k (length ws) ids splits) Lengths
    ∷ test (weight_over ws) Weight ∷ []

-- THE ANSWERS

-- a value, or why a call is refused: by the first test that passes
abbrev pub answer_by : {A : Type 0} → List Test → A → Result A Refusal
answer_by [] value = Ok value
answer_by (t ∷ ts) value = cond t.passes (Err t.refusal) (answer_by ts value)

-- the number that an answer stands for
abbrev pub number_in : {A : Type 0} → Result A Refusal → ℕ
number_in (Ok value) = 0
number_in (Err r) = number_of r

-- a lent slice: what is written, or, after a refusal, what stood there
unfoldable pub slice_by : ℕ → List ℕ → List ℕ → List ℕ
slice_by zero written before = written
slice_by (suc n) written before = before

-- the number and values that an answer stands for: of a refusal every value is 0, an axis flat, +0.0, +0.0, order 0

pub record Reading (A : Type 0) : Type 0 where
  pub number : ℕ
  pub value : A

abbrev pub read : {A : Type 0} → A → Result A Refusal → Reading A
read nothing (Ok value) = record { number = 0; value = value }
read nothing (Err r) = record { number = number_of r; value = nothing }

abbrev pub read_coded : Result ℕ Refusal → Reading ℕ
read_coded = read 0

abbrev pub read_cell2 : Result (List ℕ) Refusal → Reading (List ℕ)
read_cell2 = read (0 ∷ 0 ∷ [])

abbrev pub read_cell3 : Result (List ℕ) Refusal → Reading (List ℕ)
read_cell3 = read (0 ∷ 0 ∷ 0 ∷ [])

abbrev pub read_axis : Result Axis Refusal → Reading Axis
read_axis = read (Flat nought nought 0)

abbrev pub read_cell : Result ℕ Refusal → Reading ℕ
read_cell = read 0
