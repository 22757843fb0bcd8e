-- The axis of fit points is refused only for its order or for being thin, and else accepts each of the points. Assumes nothing.
use mathlib.Core.Path.{◌≡◌, refl, sym, ◌∙◌, subst}
use Prim.Native.Nat.{ℕ, ◌≤◌, ◌<◌, ◌^◌}
use mathlib.Core.Bool.{Bool, true, false, cond}
use mathlib.Core.List.{List, [], ◌∷◌}
use lib.Dec.{T}
use borrow.Author.Tests.{le-ltb}
use lib.ListN.{length, get_or}
use lib.Ieee.{Float, eq}
use Rattle.std.specs.Prelude.{Ok, Err}
use Rattle.rules.specs.Sums.{any}
use Rattle.rules.specs.Refusals.{first_of, top2, nought, width, refuse, value_unfit, order_over, axis_tests, cell_tests, test, answer_by}
use Rattle.rules.specs.Axis.{factor_of, axis_of, make_axis, low_of, high_of, order_of, made_up, cell_of, extent_of}
use Rattle.rules.specs.Knots.{thin_over, axis_over, knot}
use Rattle.rules.specs.declared.Axis.{Axis}
use Rattle.rules.specs.declared.Axis.TheVariants.{Flat, Sloped}
use Rattle.rules.specs.declared.refusal.Refusal.{Refusal}
use Rattle.rules.specs.declared.refusal.Refusal.TheVariants.{Thin}
use Rattle.laws.proofs.Any.{none_at}
use Rattle.laws.proofs.Readings.{answered}
use Rattle.axis_laws.proofs.AtMost.{at_most→nlt}
use Rattle.axis_laws.proofs.Passed.{fit_finite, inside_answered}
use Rattle.axis_laws.proofs.MadeUp.{in_format, not_made_up}
use Rattle.axis_laws.proofs.AtMostOneStep.{factor_ends}
use Rattle.axis_laws.proofs.CellBelow.{on_below}
use Rattle.axis_laws.proofs.ExtentHolds.{extent_proper, extent_holds}

-- an axis carries the low, high and order it is made of
pub ends_of : (low high : Float) (order : ℕ) → (low_of (axis_of low high order) ≡ low) × (high_of (axis_of low high order) ≡ high) × (order_of (axis_of low high order) ≡ order)
unfolding axis_of
ends_of low high order = go (eq (width low high) nought)
  where
    go : (b : Bool) → let a = cond b (Flat low high order) (Sloped low high order (factor_of low high order)) in (low_of a ≡ low) × (high_of a ≡ high) × (order_of a ≡ order)
    go true = (refl, refl, refl)
    go false = (refl, refl, refl)

-- and its factor is an f64
pub in_format_lem : (low high : Float) (order : ℕ) → first_of (axis_tests low high order) ≡ 0 → T (in_format (axis_of low high order))
unfolding axis_of
in_format_lem low high order e = go (eq (width low high) nought) refl
  where
    go : (b : Bool) → eq (width low high) nought ≡ b → T (in_format (cond b (Flat low high order) (Sloped low high order (factor_of low high order))))
    go true w = tt
    go false w = (factor_ends low high order e w).2

module _ (xs : List Float) (order : ℕ) (some : 0 < length xs) (fit : any value_unfit xs ≡ false) where
  pub refused_order_or_thin : first_of (axis_tests (extent_of xs).low (extent_of xs).high order) ≡ refuse (order_over top2 order) 1 (refuse (thin_over xs) 7 0)
  unfolding axis_tests any
  refused_order_or_thin =
      let p = extent_proper xs some fit in
      let o = at_most→nlt (extent_of xs).high (extent_of xs).low (fit_finite _ p.high_fit) (fit_finite _ p.low_fit) p.ordered in
      rw (p.low_fit, p.high_fit, o)

  -- its answer, by whether it is thin
  by_thin : order ≤ top2 → make_axis (extent_of xs).low (extent_of xs).high order ≡ answer_by (test (thin_over xs) Thin ∷ []) (axis_over xs order)
  unfolding make_axis axis_over axis_tests any
  by_thin few =
      let p = extent_proper xs some fit in
      let o = at_most→nlt (extent_of xs).high (extent_of xs).low (fit_finite _ p.high_fit) (fit_finite _ p.low_fit) p.ordered in
      rw (le-ltb top2 order few, p.low_fit, p.high_fit, o)

  pub over_refused : (r : Refusal) → order ≤ top2 → make_axis (extent_of xs).low (extent_of xs).high order ≡ Err r → (thin_over xs ≡ true) × (r ≡ Thin)
  over_refused r few e = go (thin_over xs) (sym (by_thin few) ∙ e)
    where
      go : (b : Bool) → answer_by (test b Thin ∷ []) (axis_over xs order) ≡ Err r → (b ≡ true) × (r ≡ Thin)
      go true p = (refl, cc)
      go false p = cc

  pub over_made : (a : Axis) → order ≤ top2 → make_axis (extent_of xs).low (extent_of xs).high order ≡ Ok a → (thin_over xs ≡ false) × (a ≡ axis_over xs order)
  over_made a few e = go (thin_over xs) (sym (by_thin few) ∙ e)
    where
      go : (b : Bool) → answer_by (test b Thin ∷ []) (axis_over xs order) ≡ Ok a → (b ≡ false) × (a ≡ axis_over xs order)
      go true p = cc
      go false p = (refl, cc)

  module _ (few : order ≤ top2) (thick : thin_over xs ≡ false) where
    pub not_refused : first_of (axis_tests (extent_of xs).low (extent_of xs).high order) ≡ 0
    not_refused = refused_order_or_thin ∙ rw (le-ltb top2 order few, thick)

    pub made_over : make_axis (extent_of xs).low (extent_of xs).high order ≡ Ok (axis_over xs order)
    unfolding make_axis axis_over
    made_over = answered (axis_tests (extent_of xs).low (extent_of xs).high order) _ not_refused

    pub over_not_made_up : made_up (axis_over xs order) ≡ false
    unfolding axis_over
    over_not_made_up =
        let e = ends_of (extent_of xs).low (extent_of xs).high order in
        not_made_up (axis_over xs order) (rw (e.0, e.1, e.2) made_over)

    pub accepts : (i : ℕ) → i < length xs → let a = axis_over xs order in first_of (cell_tests (made_up a) (low_of a) (high_of a) (get_or xs i nought)) ≡ 0
    unfolding axis_over
    accepts i h =
        let x = get_or xs i nought in
        let e = ends_of (extent_of xs).low (extent_of xs).high order in
        let p = extent_proper xs some fit in
        let k = extent_holds xs i fit h in
        let f = none_at value_unfit nought xs fit i h in
        rw (e.0, e.1)
        (inside_answered _ _ _ _
        (record {
          made = over_not_made_up;
          value_fit = f;
          not-below = at_most→nlt x (extent_of xs).low (fit_finite x f) (fit_finite _ p.low_fit) k.above;
          not_above = at_most→nlt (extent_of xs).high x (fit_finite _ p.high_fit) (fit_finite x f) k.below;
        }))

    pub knot_found : (i : ℕ) → i < length xs → cell_of (axis_over xs order) (get_or xs i nought) ≡ Ok (knot xs order i)
    unfolding cell_of knot
    knot_found i h = answered (let a = axis_over xs order in cell_tests (made_up a) (low_of a) (high_of a) (get_or xs i nought)) _ (accepts i h)

    pub knot_below : (i : ℕ) → i < length xs → knot xs order i < 2 ^ order
    unfolding axis_over knot
    knot_below i h =
        let e = ends_of (extent_of xs).low (extent_of xs).high order in
        subst (λ (o : ℕ). knot xs order i < 2 ^ o) e.2 (on_below (axis_over xs order) (get_or xs i nought) (in_format_lem _ _ order not_refused) (accepts i h))
