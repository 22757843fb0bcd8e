-- What the tests of document 01 say once they are passed: of a value, of an axis, of a value on an axis. Assumes nothing.
use mathlib.Core.Path.{◌≡◌, sym, subst}
use Prim.Native.Nat.{ℕ, ◌≤◌}
use mathlib.Core.Bool.{Bool, true, false, ◌&&◌, ◌||◌}
use lib.IntN.{pos}
use lib.Dec.{T}
use borrow.Author.Tests.{ltb-false, not-false}
use lib.Ieee.{Float, fin, le, lt}
use lib.Ieee.Scale.{finite}
use Rattle.rules.specs.Sums.{any}
use Rattle.rules.specs.Refusals.{first_of, top2, value_unfit, axis_thin, axis_tests, cell_tests}
use Rattle.laws.proofs.Any.{neither}
use Rattle.laws.proofs.Exactly.{exactly, none_passes}
use Rattle.axis_laws.proofs.SubMono.{and_l, and_r}
use Rattle.axis_laws.proofs.Width.{in_size_finite}

-- A FIT VALUE

fit : (x : Float) → value_unfit x ≡ false → T (le (fin true 1 (pos 20)) x && le x (fin false 1 (pos 20)))
unfolding value_unfit
fit x e = subst T (sym (not-false (le (fin true 1 (pos 20)) x && le x (fin false 1 (pos 20))) e)) tt

pub fit_low : (x : Float) → value_unfit x ≡ false → T (le (fin true 1 (pos 20)) x)
fit_low x e = and_l (le (fin true 1 (pos 20)) x) (le x (fin false 1 (pos 20))) (fit x e)

pub fit_high : (x : Float) → value_unfit x ≡ false → T (le x (fin false 1 (pos 20)))
fit_high x e = and_r (le (fin true 1 (pos 20)) x) (le x (fin false 1 (pos 20))) (fit x e)

pub fit_finite : (x : Float) → value_unfit x ≡ false → T (finite x)
fit_finite x e = in_size_finite x (fit_low x e) (fit_high x e)

-- AN AXIS

pub record Sound (low high : Float) (order : ℕ) : Type 0 where
  pub order_fit : order ≤ top2
  pub low_fit : value_unfit low ≡ false
  pub high_fit : value_unfit high ≡ false
  pub ordered : lt high low ≡ false
  pub not_thin : axis_thin low high ≡ false

pub sound : (low high : Float) (order : ℕ) → first_of (axis_tests low high order) ≡ 0 → Sound low high order
unfolding axis_tests any
sound low high order e =
    let none = none_passes (axis_tests low high order) e in
    let l = neither (value_unfit low) (value_unfit high || false) none.1.0 in
    record {
      order_fit = ltb-false top2 order none.0;
      low_fit = l.0;
      high_fit = (neither (value_unfit high) false l.1).0;
      ordered = none.1.1.0;
      not_thin = none.1.1.1.0;
    }

-- A VALUE ON AN AXIS

pub record Inside (made_up : Bool) (low high value : Float) : Type 0 where
  pub made : made_up ≡ false
  pub value_fit : value_unfit value ≡ false
  pub not-below : lt value low ≡ false
  pub not_above : lt high value ≡ false

pub inside : (made_up : Bool) (low high value : Float) → first_of (cell_tests made_up low high value) ≡ 0 → Inside made_up low high value
unfolding cell_tests
inside made_up low high value e =
    let none = none_passes (cell_tests made_up low high value) e in
    let d = neither (lt value low) (lt high value) none.1.1.0 in
    record { made = none.0; value_fit = none.1.0; not-below = d.0; not_above = d.1 }

pub inside_answered : (made_up : Bool) (low high value : Float) → Inside made_up low high value → first_of (cell_tests made_up low high value) ≡ 0
unfolding cell_tests
inside_answered made_up low high value i =
    (exactly (cell_tests made_up low high value)).none (i.made, (i.value_fit, (rw (i.not-below, i.not_above), tt)))
