-- Indexing all points is indexing them on the axes from their lowest to their highest, given none of them is unfit: these ends are fit and in
-- order, such an axis is what making it anew gives, and it holds its points. Assumes nothing.
use Prim.Native.Nat.{ℕ, zero, suc, ◌≤◌, ◌<◌}
use native.Mathlib.Nat.{le_refl, pos_of_ne-zero}
use native.Mathlib.Omega.{arith}
use mathlib.Core.Path.{◌≡◌, refl, sym, ap, ◌∙◌}
use mathlib.Core.Bool.{Bool, true, false, ◌||◌}
use mathlib.Core.List.{List, [], ◌∷◌, ◌++◌}
use lib.Dec.{lit≤}
use lib.ListN.{length, get_or}
use lib.Ieee.{Float}
use borrow.Author.Tests.{eqb-false, eq-eqb, ltb-false}
use Rattle.rules.specs.Sums.{any}
use Rattle.rules.specs.Refusals.{Test, test, first_of, top2, top3, nought, value_unfit, axis_thin, reversed, outside, index_tests, lengths_off, order_over, no_points}
use Rattle.rules.specs.declared.refusal.Refusal.TheVariants.{Order, NoPoints, Lengths, Value, Thin}
use Rattle.rules.specs.Axis.{low_of, high_of, order_of, extent_of}
use Rattle.rules.specs.Knots.{filed_by, some_unfit, some_thin, thin_over, axis_over, knot, index_all2, index_all3}
use Rattle.laws.proofs.Any.{none, none_at, length_fits}
use Rattle.laws.proofs.Exactly.{none_passes, first_earlier, first_later}
use Rattle.axis_laws.proofs.AtMost.{at_most→nlt}
use Rattle.axis_laws.proofs.Passed.{fit_finite, inside}
use Rattle.axis_laws.proofs.ExtentHolds.{extent_proper}
use Rattle.axis_laws.proofs.AxisAccepts.{ends_of, over_not_made_up, accepts}
use Rattle.knots_given.specs.Given.{Given, on, foreign, questions, asked_of, on_tests, index_on2, index_on3}

-- ONE AXIS, over fit points

module _ (order : ℕ) (xs : List Float) where
  abbrev over : Given
  over = on xs (axis_over xs order)

  ends : (low_of (axis_over xs order) ≡ (extent_of xs).low) × (high_of (axis_over xs order) ≡ (extent_of xs).high) × (order_of (axis_over xs order) ≡ order)
  unfolding axis_over
  ends = ends_of (extent_of xs).low (extent_of xs).high order

  as_thin : axis_thin (low_of (axis_over xs order)) (high_of (axis_over xs order)) ≡ thin_over xs
  as_thin = rw (ends.0, ends.1)

  module _ (some : 0 < length xs) (fit : any value_unfit xs ≡ false) where
    ends_fit : any value_unfit (low_of (axis_over xs order) ∷ high_of (axis_over xs order) ∷ []) ≡ false
    unfolding any
    ends_fit = let p = extent_proper xs some fit in rw (ends.0, ends.1, p.low_fit, p.high_fit)

    in_order : reversed (low_of (axis_over xs order)) (high_of (axis_over xs order)) ≡ false
    in_order =
        let p = extent_proper xs some fit in
        rw (ends.0, ends.1) (at_most→nlt (extent_of xs).high (extent_of xs).low (fit_finite _ p.high_fit) (fit_finite _ p.low_fit) p.ordered)

    own : order ≤ top2 → thin_over xs ≡ false → foreign order (axis_over xs order) ≡ false
    unfolding foreign
    own few thick = rw (over_not_made_up xs order some fit few thick, ends.2, eq-eqb order order refl)

    within : order ≤ top2 → thin_over xs ≡ false → any (outside (low_of (axis_over xs order)) (high_of (axis_over xs order))) xs ≡ false
    within few thick = none (outside (low_of (axis_over xs order)) (high_of (axis_over xs order))) nought xs held
      where
        held : (i : ℕ) → i < length xs → outside (low_of (axis_over xs order)) (high_of (axis_over xs order)) (get_or xs i nought) ≡ false
        held i h = let p = inside _ _ _ _ (accepts xs order some fit few thick i h) in rw (p.not-below, p.not_above)

-- ALL AXES

module _ (order : ℕ) where
  -- the points of each axis on the axis over them
  over_all : List (List Float) → List Given
  over_all [] = []
  over_all (xs ∷ axes) = over order xs ∷ over_all axes

  any_over : (p : Given → Bool) (axes : List (List Float)) → any p (over_all axes) ≡ any (λ xs. p (over order xs)) axes
  unfolding any over_all
  any_over p [] = refl
  any_over p (xs ∷ axes) = ap (λ (b : Bool). p (over order xs) || b) (any_over p axes)

  all_as_thin : (axes : List (List Float)) → any (λ g. axis_thin (low_of g.axis) (high_of g.axis)) (over_all axes) ≡ some_thin axes
  unfolding any over_all some_thin
  all_as_thin [] = refl
  all_as_thin (xs ∷ axes) = rw (as_thin order xs, all_as_thin axes)

  -- a question that is answered no of the points of each axis
  none_over : (p : Given → Bool) (axes : List (List Float)) → ((i : ℕ) → i < length axes → p (over order (get_or axes i [])) ≡ false) → any p (over_all axes) ≡ false
  none_over p axes h = any_over p axes ∙ none (λ xs. p (over order xs)) [] axes h

  -- so a thin axis alone can be refused
  asked_over : (axes : List (List Float)) → order ≤ top2 → ((i : ℕ) → i < length axes → 0 < length (get_or axes i [])) → some_unfit axes ≡ false
      → first_of (asked_of (over_all axes) (questions order)) ≡ first_of (test (some_thin axes) Thin ∷ [])
  unfolding asked_of questions some_unfit some_thin
  asked_over axes few some fit = go (some_thin axes) refl
    where
      fit_at : (i : ℕ) → i < length axes → any value_unfit (get_or axes i []) ≡ false
      fit_at = none_at (any value_unfit) [] axes fit

      fit_ends : any (λ g. any value_unfit (low_of g.axis ∷ high_of g.axis ∷ [])) (over_all axes) ≡ false
      fit_ends = none_over (λ g. any value_unfit (low_of g.axis ∷ high_of g.axis ∷ [])) axes (λ i h. ends_fit order _ (some i h) (fit_at i h))

      ordered : any (λ g. reversed (low_of g.axis) (high_of g.axis)) (over_all axes) ≡ false
      ordered = none_over (λ g. reversed (low_of g.axis) (high_of g.axis)) axes (λ i h. in_order order _ (some i h) (fit_at i h))

      all_own : some_thin axes ≡ false → any (λ g. foreign order g.axis) (over_all axes) ≡ false
      all_own e = none_over (λ g. foreign order g.axis) axes (λ i h. own order _ (some i h) (fit_at i h) few (none_at thin_over [] axes e i h))

      fit_points : any (λ g. any value_unfit g.points) (over_all axes) ≡ false
      fit_points = none_over (λ g. any value_unfit g.points) axes fit_at

      all_within : some_thin axes ≡ false → any (λ g. any (outside (low_of g.axis) (high_of g.axis)) g.points) (over_all axes) ≡ false
      all_within e = none_over (λ g. any (outside (low_of g.axis) (high_of g.axis)) g.points) axes (λ i h. within order _ (some i h) (fit_at i h) few (none_at thin_over [] axes e i h))

      go : (thin : Bool) → some_thin axes ≡ thin → first_of (asked_of (over_all axes) (questions order)) ≡ first_of (test (some_thin axes) Thin ∷ [])
      go true e = rw (fit_ends, ordered, all_as_thin axes, e)
      go false e = rw (fit_ends, ordered, all_as_thin axes, all_own e, fit_points, all_within e)

-- THE CALL, of n points: each axis has as many where no length is off
module _ (most order n : ℕ) (few : most ≤ top2) (lengths : List ℕ) (axes : List (List Float)) (fit : some_unfit axes ≡ false) (as_many : lengths_off n lengths ≡ false → (i : ℕ) → i < length axes → length (get_or axes i []) ≡ n) where
  -- the tests of the order and of the lengths
  abbrev shape : List Test
  shape = test (order_over most order) Order ∷ test (no_points n) NoPoints ∷ test (lengths_off n lengths) Lengths ∷ []

  on_axes_lem : first_of shape ≡ 0 → first_of (asked_of (over_all order axes) (questions order)) ≡ first_of (test (some_thin axes) Thin ∷ [])
  on_axes_lem e =
      let p = none_passes shape e in
      let order_few : order ≤ top2 = omega (arith, ltb-false most order p.0) in
      asked_over order axes order_few (λ i h. let l = as_many p.1.1.0 i h in omega (arith, pos_of_ne-zero (eqb-false n 0 p.1.0))) fit

  same_number : first_of (index_tests most order n lengths (some_unfit axes) (some_thin axes)) ≡ first_of (on_tests most order n lengths (over_all order axes))
  unfolding index_tests on_tests
  same_number = go (first_of shape) refl
    where
      behind : List Test
      behind = test (some_unfit axes) Value ∷ test (some_thin axes) Thin ∷ []

      go : (k : ℕ) → first_of shape ≡ k → first_of (shape ++ behind) ≡ first_of (shape ++ asked_of (over_all order axes) (questions order))
      go zero e =
          let passed = none_passes shape e in
          first_later shape behind passed ∙ rw fit (sym (on_axes_lem e)) ∙ sym (first_later shape (asked_of (over_all order axes) (questions order)) passed)
      go (suc k) e = first_earlier shape behind k e ∙ sym (first_earlier shape (asked_of (over_all order axes) (questions order)) k e)

  same_filed : (written before : List ℕ) → filed_by (first_of (index_tests most order n lengths (some_unfit axes) (some_thin axes))) written before ≡ filed_by (first_of (on_tests most order n lengths (over_all order axes))) written before
  same_filed written before = ap (λ (k : ℕ). filed_by k written before) same_number

pub index_all_2d_is_on : (xs ys : List Float) (order : ℕ) (before : List ℕ) → some_unfit (xs ∷ ys ∷ []) ≡ false
    → index_all2 xs ys order before ≡ index_on2 xs ys (axis_over xs order) (axis_over ys order) order before
unfolding index_all2 index_on2 knot over_all
index_all_2d_is_on xs ys order before fit =
    same_filed top2 order (length xs) (le_refl top2) (length ys ∷ length before ∷ []) (xs ∷ ys ∷ []) fit as_many _ before
  where
    as_many : lengths_off (length xs) (length ys ∷ length before ∷ []) ≡ false → (i : ℕ) → i < 2 → length (get_or (xs ∷ ys ∷ []) i []) ≡ length xs
    as_many e zero h = refl
    as_many e (suc zero) h = length_fits (length xs) (length ys ∷ length before ∷ []) e 0 (lit≤ tt)
    as_many e (suc (suc i)) h = absurd (omega arith)

pub index_all_3d_is_on : (xs ys zs : List Float) (order : ℕ) (before : List ℕ) → some_unfit (xs ∷ ys ∷ zs ∷ []) ≡ false
    → index_all3 xs ys zs order before ≡ index_on3 xs ys zs (axis_over xs order) (axis_over ys order) (axis_over zs order) order before
unfolding index_all3 index_on3 knot over_all
index_all_3d_is_on xs ys zs order before fit =
    same_filed top3 order (length xs) (lit≤ tt) (length ys ∷ length zs ∷ length before ∷ []) (xs ∷ ys ∷ zs ∷ []) fit as_many _ before
  where
    as_many : lengths_off (length xs) (length ys ∷ length zs ∷ length before ∷ []) ≡ false → (i : ℕ) → i < 3 → length (get_or (xs ∷ ys ∷ zs ∷ []) i []) ≡ length xs
    as_many e zero h = refl
    as_many e (suc zero) h = length_fits (length xs) (length ys ∷ length zs ∷ length before ∷ []) e 0 (lit≤ tt)
    as_many e (suc (suc zero)) h = length_fits (length xs) (length ys ∷ length zs ∷ length before ∷ []) e 1 (lit≤ tt)
    as_many e (suc (suc (suc i))) h = absurd (omega arith)
