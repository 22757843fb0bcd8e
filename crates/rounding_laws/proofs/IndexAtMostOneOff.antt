-- Where points are indexed on given axes, or on the axes over them, the cell that a point's index decodes to is its cell on each axis, and so near its
-- exact place there. Assumes nothing.
use Prim.Native.Nat.{ℕ, ◌≤◌, ◌<◌, ◌^◌}
use mathlib.Core.Path.{◌≡◌, refl, sym, ap, ◌∙◌, subst}
use mathlib.Core.Bool.{false, not}
use mathlib.Core.List.{List, [], ◌∷◌}
use native.Mathlib.Nat.{le_trans, pos_of_ne-zero}
use lib.Dec.{T, eqb, lit≤}
use lib.ListN.{length, get_or}
use lib.Ieee.{Float, lt}
use borrow.Author.Tests.{ltb-false, eqb-false, eqb-true, not-false}
use Rattle.rules.specs.Sums.{any, list}
use Rattle.rules.specs.Refusals.{top2, top3, nought, value_unfit, axis_thin, reversed, outside, index_tests, slice_by}
use Rattle.rules.specs.Curve.{plane, space, cell2, cell3, index_of, decode2, decode3}
use Rattle.rules.specs.Axis.{low_of, high_of, order_of, made_up, cell_on}
use Rattle.rules.specs.Knots.{some_unfit, some_thin, thin_over, axis_over, Filed, index2_tests, index3_tests, index_all2, index_all3}
use Rattle.rules.specs.declared.Axis.{Axis}
use Rattle.rules.specs.declared.Axis.TheVariants.{Flat, Sloped}
use Rattle.rules.specs.declared.Extent.{Extent}
use Rattle.requests.specs.Rounding.{AxisIsF64, ExtentIsF64, AllF64, NearOn, NearPoints2, NearPoints3, NearKnots2, NearKnots3, IndexAtMostOneOff2, IndexAtMostOneOff3}
use Rattle.knots_given.specs.Given.{Given, on, foreign, questions, asked_of, on_tests, on2_tests, on3_tests, index_on2, index_on3, axis_in, in2_tests, in3_tests, index_in2, index_in3}
use Rattle.laws.proofs.Any.{neither, none_at, length_fits}
use Rattle.laws.proofs.Exactly.{none_passes}
use Rattle.laws.proofs.Lists.{get_or_list}
use Rattle.curve_laws.proofs.Demand2.{decode_encode_2d, decode_encode_3d}
use Rattle.curve_laws.proofs.Refusals.{encode2_accepted, encode3_accepted}
use Rattle.axis_laws.proofs.Passed.{inside_answered}
use Rattle.axis_laws.proofs.MadeUp.{in_format, answered}
use Rattle.axis_laws.proofs.CellBelow.{on_below}
use Rattle.axis_laws.proofs.AxisAccepts.{ends_of, not_refused}
use Rattle.given_laws.proofs.NeverForeign.{made_of_ends}
use Rattle.given_laws.proofs.OverThePoints.{index_all_2d_is_on, index_all_3d_is_on}
use Rattle.rounding_laws.proofs.ScaledValue.{f64_fits}
use Rattle.rounding_laws.proofs.CellAtMostOneOff.{on_near, made_is_f64}
use Rattle.rounding_laws.proofs.KnotAtMostOneOff.{over_is_f64}

-- ONE AXIS: a point that passes its tests has a cell below 2^order, and near

record OnAxis (a : Axis) (order : ℕ) (x : Float) : Type 0 where
  below : cell_on a x < 2 ^ order
  near : NearOn a x (cell_on a x)

factor_fits : (a : Axis) → AxisIsF64 a → T (in_format a)
factor_fits (Flat low high order) f = tt
factor_fits (Sloped low high order factor) f = f64_fits factor f.2

on_axis : (order i : ℕ) (g : Given) → foreign order g.axis ≡ false → any value_unfit g.points ≡ false → any (outside (low_of g.axis) (high_of g.axis)) g.points ≡ false
    → AxisIsF64 g.axis → AllF64 g.points → i < length g.points → OnAxis g.axis order (get_or g.points i nought)
unfolding foreign
on_axis order i g own fit within a64 x64 h =
    let a = g.axis in
    let x = get_or g.points i nought in
    let o = neither (made_up a) (not (eqb (order_of a) order)) own in
    let same : order_of a ≡ order = eqb-true _ order (not-false _ o.1) in
    let d = neither (lt x (low_of a)) (lt (high_of a) x) (none_at (outside (low_of a) (high_of a)) nought g.points within i h) in
    let accepted =
    inside_answered (made_up a) (low_of a) (high_of a) x (record { made = o.0; value_fit = none_at value_unfit nought g.points fit i h; not-below = d.0; not_above = d.1 }) in
    record {
      below = subst (λ (m : ℕ). cell_on a x < 2 ^ m) same (on_below a x (factor_fits a a64) accepted);
      near = on_near a x a64 (x64 i h) accepted;
    }

-- and so on each of several axes of n points
module _ (order i n : ℕ) (h : i < n) (axes : List Given) (own : any (λ g. foreign order g.axis) axes ≡ false) (fit : any (λ g. any value_unfit g.points) axes ≡ false)
    (within : any (λ g. any (outside (low_of g.axis) (high_of g.axis)) g.points) axes ≡ false) where
  on_each : (d : Given) (k : ℕ) → k < length axes → let g = get_or axes k d in length g.points ≡ n → AxisIsF64 g.axis → AllF64 g.points
      → OnAxis g.axis order (get_or g.points i nought)
  on_each d k l e a64 x64 =
      on_axis order i (get_or axes k d) (none_at _ d axes own k l) (none_at _ d axes fit k l) (none_at _ d axes within k l) a64 x64 (subst (λ (m : ℕ). i < m) (sym e) h)

-- ON GIVEN AXES

pub on_at_most_one_off_2d : (xs ys : List Float) (xaxis yaxis : Axis) (order : ℕ) (before : List ℕ) → AllF64 xs → AllF64 ys → AxisIsF64 xaxis → AxisIsF64 yaxis
    → (index_on2 xs ys xaxis yaxis order before).number ≡ 0 → NearPoints2 xs ys xaxis yaxis order (index_on2 xs ys xaxis yaxis order before).indices
unfolding index_on2 on_tests asked_of questions slice_by
on_at_most_one_off_2d xs ys xaxis yaxis order before x64 y64 xaxis64 yaxis64 answered i h =
    let none = none_passes (on2_tests xs ys xaxis yaxis order before) answered in
    let asked = none.1.1.1.1.1.1 in
    let few : order ≤ top2 = ltb-false top2 order none.0 in
    let at-axis = on_each order i (length xs) h (on xs xaxis ∷ on ys yaxis ∷ []) asked.0 asked.1.0 asked.1.1.0 (on xs xaxis) in
    let x = at-axis 0 (lit≤ tt) refl xaxis64 x64 in
    let y = at-axis 1 (lit≤ tt) (length_fits (length xs) (length ys ∷ length before ∷ []) none.1.1.0 0 (lit≤ tt)) yaxis64 y64 in
    let c : ℕ → ℕ = λ i. cell_on xaxis (get_or xs i nought) in
    let k : ℕ → ℕ = λ i. cell_on yaxis (get_or ys i nought) in
    let d = decode_encode_2d (c i) (k i) order few x.below y.below in
    let f : ℕ → ℕ = λ i. index_of plane order (cell2 (c i) (k i)) in
    let is : get_or (index_on2 xs ys xaxis yaxis order before).indices i 0 ≡ d.0 =
    ap (λ (n : ℕ). get_or (slice_by n (list f (length xs)) before) i 0) answered ∙ get_or_list f (length xs) i 0 h ∙ (encode2_accepted _ _ order d.0 d.1).index_is in
    (c i, k i, ap (λ (n : ℕ). decode2 n order) is ∙ d.2, x.near, y.near)

pub on_at_most_one_off_3d : (xs ys zs : List Float) (xaxis yaxis zaxis : Axis) (order : ℕ) (before : List ℕ) → AllF64 xs → AllF64 ys → AllF64 zs
    → AxisIsF64 xaxis → AxisIsF64 yaxis → AxisIsF64 zaxis
    → (index_on3 xs ys zs xaxis yaxis zaxis order before).number ≡ 0 → NearPoints3 xs ys zs xaxis yaxis zaxis order (index_on3 xs ys zs xaxis yaxis zaxis order before).indices
unfolding index_on3 on_tests asked_of questions slice_by
on_at_most_one_off_3d xs ys zs xaxis yaxis zaxis order before x64 y64 z64 xaxis64 yaxis64 zaxis64 answered i h =
    let none = none_passes (on3_tests xs ys zs xaxis yaxis zaxis order before) answered in
    let asked = none.1.1.1.1.1.1 in
    let few : order ≤ top3 = ltb-false top3 order none.0 in
    let at-axis = on_each order i (length xs) h (on xs xaxis ∷ on ys yaxis ∷ on zs zaxis ∷ []) asked.0 asked.1.0 asked.1.1.0 (on xs xaxis) in
    let same = length_fits (length xs) (length ys ∷ length zs ∷ length before ∷ []) none.1.1.0 in
    let x = at-axis 0 (lit≤ tt) refl xaxis64 x64 in
    let y = at-axis 1 (lit≤ tt) (same 0 (lit≤ tt)) yaxis64 y64 in
    let z = at-axis 2 (lit≤ tt) (same 1 (lit≤ tt)) zaxis64 z64 in
    let c : ℕ → ℕ = λ i. cell_on xaxis (get_or xs i nought) in
    let k : ℕ → ℕ = λ i. cell_on yaxis (get_or ys i nought) in
    let l : ℕ → ℕ = λ i. cell_on zaxis (get_or zs i nought) in
    let d = decode_encode_3d (c i) (k i) (l i) order few x.below y.below z.below in
    let f : ℕ → ℕ = λ i. index_of space order (cell3 (c i) (k i) (l i)) in
    let is : get_or (index_on3 xs ys zs xaxis yaxis zaxis order before).indices i 0 ≡ d.0 =
    ap (λ (n : ℕ). get_or (slice_by n (list f (length xs)) before) i 0) answered ∙ get_or_list f (length xs) i 0 h ∙ (encode3_accepted _ _ _ order d.0 d.1).index_is in
    (c i, k i, l i, ap (λ (n : ℕ). decode3 n order) is ∙ d.2, x.near, y.near, z.near)

-- ON AXES FROM LOW TO HIGH

-- where no question about their ends passes
in_is_f64 : (order : ℕ) → order ≤ top2 → (e : Extent) → let a = axis_in e order in any value_unfit (low_of a ∷ high_of a ∷ []) ≡ false → reversed (low_of a) (high_of a) ≡ false
    → axis_thin (low_of a) (high_of a) ≡ false → ExtentIsF64 e → AxisIsF64 a
in_is_f64 order few e fit ordered thick e64 =
    let ends = ends_of e.low e.high order in
    let made = made_of_ends e order few (rw (ends.0, ends.1) at fit) (rw (ends.0, ends.1) at ordered) (rw (ends.0, ends.1) at thick) in
    made_is_f64 e.low e.high order e64.0 e64.1 (answered e.low e.high order (axis_in e order) made).0

-- each of several such axes
module _ (order : ℕ) (few : order ≤ top2) (axes : List Given) (fit : any (λ g. any value_unfit (low_of g.axis ∷ high_of g.axis ∷ [])) axes ≡ false)
    (ordered : any (λ g. reversed (low_of g.axis) (high_of g.axis)) axes ≡ false) (thick : any (λ g. axis_thin (low_of g.axis) (high_of g.axis)) axes ≡ false) where
  in_each : (d : Given) (k : ℕ) → k < length axes → (e : Extent) → (get_or axes k d).axis ≡ axis_in e order → ExtentIsF64 e → AxisIsF64 (axis_in e order)
  in_each d k l e is e64 =
      in_is_f64 order few e (rw is at (none_at (λ g. any value_unfit (low_of g.axis ∷ high_of g.axis ∷ [])) d axes fit k l))
      (rw is at (none_at (λ g. reversed (low_of g.axis) (high_of g.axis)) d axes ordered k l))
      (rw is at (none_at (λ g. axis_thin (low_of g.axis) (high_of g.axis)) d axes thick k l)) e64

pub in_at_most_one_off_2d : (xs ys : List Float) (x y : Extent) (order : ℕ) (before : List ℕ) → AllF64 xs → AllF64 ys → ExtentIsF64 x → ExtentIsF64 y
    → (index_in2 xs ys x y order before).number ≡ 0 → NearPoints2 xs ys (axis_in x order) (axis_in y order) order (index_in2 xs ys x y order before).indices
unfolding index_on2 on_tests asked_of questions
in_at_most_one_off_2d xs ys x y order before xs64 ys64 x64 y64 answered =
    let none = none_passes (in2_tests xs ys x y order before) answered in
    let asked = none.1.1.1 in
    let axes = on xs (axis_in x order) ∷ on ys (axis_in y order) ∷ [] in
    let f64 = in_each order (ltb-false top2 order none.0) axes asked.0 asked.1.0 asked.1.1.0 (on xs (axis_in x order)) in
    on_at_most_one_off_2d xs ys (axis_in x order) (axis_in y order) order before xs64 ys64 (f64 0 (lit≤ tt) x refl x64) (f64 1 (lit≤ tt) y refl y64) answered

pub in_at_most_one_off_3d : (xs ys zs : List Float) (x y z : Extent) (order : ℕ) (before : List ℕ) → AllF64 xs → AllF64 ys → AllF64 zs
    → ExtentIsF64 x → ExtentIsF64 y → ExtentIsF64 z
    → (index_in3 xs ys zs x y z order before).number ≡ 0 → NearPoints3 xs ys zs (axis_in x order) (axis_in y order) (axis_in z order) order (index_in3 xs ys zs x y z order before).indices
unfolding index_on3 on_tests asked_of questions
in_at_most_one_off_3d xs ys zs x y z order before xs64 ys64 zs64 x64 y64 z64 answered =
    let none = none_passes (in3_tests xs ys zs x y z order before) answered in
    let asked = none.1.1.1 in
    let few : order ≤ top2 = le_trans (ltb-false top3 order none.0) (lit≤ tt) in
    let axes = on xs (axis_in x order) ∷ on ys (axis_in y order) ∷ on zs (axis_in z order) ∷ [] in
    let f64 = in_each order few axes asked.0 asked.1.0 asked.1.1.0 (on xs (axis_in x order)) in
    on_at_most_one_off_3d xs ys zs (axis_in x order) (axis_in y order) (axis_in z order) order before xs64 ys64 zs64 (f64 0 (lit≤ tt) x refl x64)
    (f64 1 (lit≤ tt) y refl y64) (f64 2 (lit≤ tt) z refl z64) answered

-- ON THE AXES OVER THE POINTS

-- each of them has f64s
module _ (order n : ℕ) (few : order ≤ top2) (some : 0 < n) (axes : List (List Float)) (fit : some_unfit axes ≡ false) (thick : some_thin axes ≡ false) where
  over_each : (k : ℕ) → k < length axes → length (get_or axes k []) ≡ n → AllF64 (get_or axes k []) → AxisIsF64 (axis_over (get_or axes k []) order)
  unfolding some_unfit some_thin
  over_each k l e f64 =
      let xs = get_or axes k [] in
      let more : 0 < length xs = subst (λ (m : ℕ). 0 < m) (sym e) some in
      over_is_f64 xs order f64 more (not_refused xs order more (none_at (any value_unfit) [] axes fit k l) few (none_at thin_over [] axes thick k l))

pub index_at_most_one_off_2d : IndexAtMostOneOff2
unfolding index_all2 index_tests
index_at_most_one_off_2d xs ys order before x64 y64 answered =
    let none = none_passes (index2_tests xs ys order before) answered in
    let few : order ≤ top2 = ltb-false top2 order none.0 in
    let fit = none.1.1.1.0 in
    let over = over_each order (length xs) few (pos_of_ne-zero (eqb-false (length xs) 0 none.1.0)) (xs ∷ ys ∷ []) fit none.1.1.1.1.0 in
    let is = index_all_2d_is_on xs ys order before fit in
    subst (λ (r : Filed). r.number ≡ 0 → NearKnots2 xs ys order r.indices) (sym is)
    (on_at_most_one_off_2d xs ys (axis_over xs order) (axis_over ys order) order before x64 y64 (over 0 (lit≤ tt) refl x64)
    (over 1 (lit≤ tt) (length_fits (length xs) (length ys ∷ length before ∷ []) none.1.1.0 0 (lit≤ tt)) y64)) answered

pub index_at_most_one_off_3d : IndexAtMostOneOff3
unfolding index_all3 index_tests
index_at_most_one_off_3d xs ys zs order before x64 y64 z64 answered =
    let none = none_passes (index3_tests xs ys zs order before) answered in
    let few : order ≤ top2 = le_trans (ltb-false top3 order none.0) (lit≤ tt) in
    let fit = none.1.1.1.0 in
    let over = over_each order (length xs) few (pos_of_ne-zero (eqb-false (length xs) 0 none.1.0)) (xs ∷ ys ∷ zs ∷ []) fit none.1.1.1.1.0 in
    let same = length_fits (length xs) (length ys ∷ length zs ∷ length before ∷ []) none.1.1.0 in
    let is = index_all_3d_is_on xs ys zs order before fit in
    subst (λ (r : Filed). r.number ≡ 0 → NearKnots3 xs ys zs order r.indices) (sym is)
    (on_at_most_one_off_3d xs ys zs (axis_over xs order) (axis_over ys order) (axis_over zs order) order before x64 y64 z64 (over 0 (lit≤ tt) refl x64)
    (over 1 (lit≤ tt) (same 0 (lit≤ tt)) y64) (over 2 (lit≤ tt) (same 1 (lit≤ tt)) z64)) answered
