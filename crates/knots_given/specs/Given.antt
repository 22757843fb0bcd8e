-- Index all points on axes that are given: by their records, or by their low and high. Assumes nothing.
use Rattle.std.specs.Prelude.{ℕ, Bool, not, ◌||◌, List, [], ◌∷◌, eqb, length, get_or, Float}
use Rattle.rules.specs.Sums.{any, list}
use Rattle.rules.specs.Refusals.{Test, test, first_of, top2, top3, nought, order_over, no_points, lengths_off, value_unfit, axis_thin, reversed, outside}
use Rattle.rules.specs.declared.refusal.Refusal.{Refusal}
use Rattle.rules.specs.declared.refusal.Refusal.TheVariants.{Order, NoPoints, Lengths, Value, Thin, Outside}
use Rattle.rules.specs.Curve.{plane, space, cell2, cell3, index_of}
use Rattle.rules.specs.Axis.{axis_of, low_of, high_of, order_of, made_up, cell_on}
use Rattle.rules.specs.Knots.{Filed, filed_by}
use Rattle.rules.specs.declared.Axis.{Axis}
use Rattle.rules.specs.declared.Extent.{Extent}

-- coordinates, and the record of the axis that is given for them
pub record Given : Type 0 where
  pub points : List Float
  pub axis : Axis

abbrev pub on : List Float → Axis → Given
on xs a = record { points = xs; axis = a }

-- THE ORDER OF TESTS

-- 8: a record that making it anew does not give, or of another order than the call's
unfoldable pub foreign : ℕ → Axis → Bool
foreign order a = made_up a || not (eqb (order_of a) order)

-- what is asked of an axis and its points, and why a call that passes it is refused
pub record Question : Type 0 where
  pub passes : Given → Bool
  pub refusal : Refusal

abbrev pub ask : Refusal → (Given → Bool) → Question
ask r p = record { passes = p; refusal = r }

unfoldable pub questions : ℕ → List Question
questions order =
    ask Value (λ g. any value_unfit (low_of g.axis ∷ high_of g.axis ∷ []))
    ∷ ask Outside (λ g. reversed (low_of g.axis) (high_of g.axis))
    ∷ ask Thin (λ g. axis_thin (low_of g.axis) (high_of g.axis))
    ∷ ask Outside (λ g. foreign order g.axis)
    ∷ ask Value (λ g. any value_unfit g.points)
    ∷ ask Outside (λ g. any (outside (low_of g.axis) (high_of g.axis)) g.points) ∷ []

-- each is asked of all axes before the next
unfoldable pub asked_of : List Given → List Question → List Test
asked_of axes [] = []
asked_of axes (q ∷ qs) = test (any q.passes axes) q.refusal ∷ asked_of axes qs

-- of n points: the order, the lengths of the other coordinate slices and of the index slice, the axes
unfoldable pub on_tests : ℕ → ℕ → ℕ → List ℕ → List Given → List Test
on_tests most order n lengths axes =
    test (order_over most order) Order ∷ test (no_points n) NoPoints ∷ test (lengths_off n lengths) Lengths ∷ asked_of axes (questions order)

-- ON RECORDS: of the coordinates, their axes, the order, and what the index slice holds

abbrev pub on2_tests : List Float → List Float → Axis → Axis → ℕ → List ℕ → List Test
on2_tests xs ys xaxis yaxis order before = on_tests top2 order (length xs) (length ys ∷ length before ∷ []) (on xs xaxis ∷ on ys yaxis ∷ [])

unfoldable pub index_on2 : List Float → List Float → Axis → Axis → ℕ → List ℕ → Filed
index_on2 xs ys xaxis yaxis order before =
    filed_by
    (first_of (on2_tests xs ys xaxis yaxis order before))
    (list (λ i. index_of plane order (cell2 (cell_on xaxis (get_or xs i nought)) (cell_on yaxis (get_or ys i nought)))) (length xs))
    before

abbrev pub on3_tests : List Float → List Float → List Float → Axis → Axis → Axis → ℕ → List ℕ → List Test
on3_tests xs ys zs xaxis yaxis zaxis order before =
    on_tests top3 order (length xs) (length ys ∷ length zs ∷ length before ∷ []) (on xs xaxis ∷ on ys yaxis ∷ on zs zaxis ∷ [])

unfoldable pub index_on3 : List Float → List Float → List Float → Axis → Axis → Axis → ℕ → List ℕ → Filed
index_on3 xs ys zs xaxis yaxis zaxis order before =
    filed_by
    (first_of (on3_tests xs ys zs xaxis yaxis zaxis order before))
    (list (λ i. index_of space order (cell3 (cell_on xaxis (get_or xs i nought)) (cell_on yaxis (get_or ys i nought)) (cell_on zaxis (get_or zs i nought)))) (length xs))
    before

-- ON LOW AND HIGH: the same on the axes from low to high

abbrev pub axis_in : Extent → ℕ → Axis
axis_in e order = axis_of e.low e.high order

abbrev pub in2_tests : List Float → List Float → Extent → Extent → ℕ → List ℕ → List Test
in2_tests xs ys x y order = on2_tests xs ys (axis_in x order) (axis_in y order) order

abbrev pub index_in2 : List Float → List Float → Extent → Extent → ℕ → List ℕ → Filed
index_in2 xs ys x y order = index_on2 xs ys (axis_in x order) (axis_in y order) order

abbrev pub in3_tests : List Float → List Float → List Float → Extent → Extent → Extent → ℕ → List ℕ → List Test
in3_tests xs ys zs x y z order = on3_tests xs ys zs (axis_in x order) (axis_in y order) (axis_in z order) order

abbrev pub index_in3 : List Float → List Float → List Float → Extent → Extent → Extent → ℕ → List ℕ → Filed
index_in3 xs ys zs x y z order = index_on3 xs ys zs (axis_in x order) (axis_in y order) (axis_in z order) order
