-- The cell of every accepted value lies below 2^order. Assumes nothing.
use mathlib.Core.Path.{◌≡◌, sym, subst}
use Prim.Native.Nat.{ℕ, ◌≤◌, ◌<◌, ◌^◌}
use mathlib.Core.Bool.{false}
use lib.Dec.{T}
use lib.Pow.{pow_pos}
use Rattle.std.specs.Prelude.{Ok}
use lib.Ieee.{Float, binary64, fits, eq}
use Rattle.rules.specs.Refusals.{first_of, nought, width, axis_tests, cell_tests}
use Rattle.rules.specs.Axis.{factor_of, low_of, high_of, order_of, made_up, cell_on, cell_of}
use Rattle.rules.specs.declared.Axis.{Axis}
use Rattle.rules.specs.declared.Axis.TheVariants.{Flat, Sloped}
use Rattle.laws.proofs.Readings.{answered_by}
use Rattle.axis_laws.proofs.ProductBelow.{Ready, ready_cell, product}
use Rattle.axis_laws.proofs.Passed.{sound, inside}
use Rattle.axis_laws.proofs.AtMostOneStep.{few, factor_ready}
use Rattle.axis_laws.proofs.MadeUp.{answered, made_sloped, in_format, made_anew}

-- a sloped axis that is not made up
pub record Slope (low high : Float) (order : ℕ) (factor : Float) : Type 0 where
  pub answered : first_of (axis_tests low high order) ≡ 0
  pub wide : eq (width low high) nought ≡ false
  pub is_factor : factor ≡ factor_of low high order

pub slope : (low high : Float) (order : ℕ) (factor : Float) → T (in_format (Sloped low high order factor)) → made_up (Sloped low high order factor) ≡ false → Slope low high order factor
slope low high order factor i e =
    let r = answered low high order _ (made_anew (Sloped low high order factor) i e) in
    let k = made_sloped low high order r.1 in
    record { answered = r.0; wide = k.1; is_factor = k.2 }

-- a value that a sloped axis accepts
module _ (low high : Float) (order : ℕ) (factor value : Float) (f64 : T (fits binary64 factor)) (accepted : first_of (cell_tests (made_up (Sloped low high order factor)) low high value) ≡ 0) where
  accepting : Slope low high order factor
  accepting = slope low high order factor f64 (inside (made_up (Sloped low high order factor)) low high value accepted).made

  pub order_few : order ≤ 32
  order_few = few order (sound low high order accepting.answered).order_fit

  pub accepted_ready : Ready (product factor value low) order
  accepted_ready =
      let s = accepting in
      let i = inside (made_up (Sloped low high order factor)) low high value accepted in
      subst (λ (f : Float). Ready (product f value low) order) (sym s.is_factor) (factor_ready low high order s.answered s.wide value i.value_fit i.not-below i.not_above)

pub on_below : (a : Axis) (value : Float) → T (in_format a) → first_of (cell_tests (made_up a) (low_of a) (high_of a) value) ≡ 0 → cell_on a value < 2 ^ order_of a
unfolding cell_on
on_below (Flat low high order) value i e = pow_pos order
on_below (Sloped low high order factor) value i e = ready_cell (product factor value low) order (accepted_ready low high order factor value i e)

-- a value that has a cell passes every test, and the cell is that of the rule
pub cell_found : (a : Axis) (value : Float) (c : ℕ) → cell_of a value ≡ Ok c → (first_of (cell_tests (made_up a) (low_of a) (high_of a) value) ≡ 0) × (cell_on a value ≡ c)
unfolding cell_of
cell_found a value c e = answered_by (cell_tests (made_up a) (low_of a) (high_of a) value) (cell_on a value) c e

pub cell_below : (a : Axis) (value : Float) (c : ℕ) → T (in_format a) → cell_of a value ≡ Ok c → c < 2 ^ order_of a
cell_below a value c i e = let f = cell_found a value c e in subst (λ (k : ℕ). k < 2 ^ order_of a) f.1 (on_below a value i f.0)
