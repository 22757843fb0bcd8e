-- An axis from low to high is not foreign once no question about its ends passes: so of axes that are given by low and high a call never refuses
-- the record. Assumes nothing.
use Prim.Native.Nat.{ℕ, ◌≤◌}
use mathlib.Core.Path.{◌≡◌, refl}
use mathlib.Core.Bool.{false}
use mathlib.Core.List.{[], ◌∷◌}
use borrow.Author.Tests.{eq-eqb, le-ltb}
use Rattle.std.specs.Prelude.{Ok}
use Rattle.rules.specs.Sums.{any}
use Rattle.rules.specs.Refusals.{top2, value_unfit, axis_thin, reversed, axis_tests}
use Rattle.rules.specs.Axis.{make_axis}
use Rattle.rules.specs.declared.Extent.{Extent}
use Rattle.axis_laws.proofs.MadeUp.{not_made_up}
use Rattle.axis_laws.proofs.AxisAccepts.{ends_of}
use Rattle.knots_given.specs.Given.{foreign, axis_in}

module _ (e : Extent) (order : ℕ) (few : order ≤ top2) (fit : any value_unfit (e.low ∷ e.high ∷ []) ≡ false) (ordered : reversed e.low e.high ≡ false) (thick : axis_thin e.low e.high ≡ false) where
  pub made_of_ends : make_axis e.low e.high order ≡ Ok (axis_in e order)
  unfolding make_axis axis_tests
  made_of_ends = rw (le-ltb top2 order few, fit, ordered, thick)

  pub never_foreign : foreign order (axis_in e order) ≡ false
  unfolding foreign
  never_foreign =
      let ends = ends_of e.low e.high order in
      rw (not_made_up (axis_in e order) (rw (ends.0, ends.1, ends.2) made_of_ends), ends.2, eq-eqb order order refl)
