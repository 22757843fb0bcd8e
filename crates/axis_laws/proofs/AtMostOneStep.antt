-- A sloped axis: its width lies above zero, its factor takes at most one step down, and what the factor makes of a value on the axis lies
-- below 2^order. Assumes nothing.
use mathlib.Core.Path.{◌≡◌, refl, sym, ap, ◌∙◌}
use Prim.Native.Nat.{ℕ, ◌≤◌}
use native.Mathlib.Omega.{arith}
use mathlib.Core.Bool.{Bool, true, false, ◌&&◌}
use lib.IntN.{negsuc}
use lib.Dec.{T}
use lib.Ieee.{Float, fin, binary64, fits, to_bits, le, lt, eq, mul, div}
use lib.Ieee.Positive.{positive}
use Rattle.rules.specs.Refusals.{first_of, top2, nought, width, axis_thin, axis_tests, value_unfit}
use Rattle.rules.specs.Axis.{cell_count, next_down, descend, descend_from, factor_of}
use Rattle.axis_laws.proofs.AtMost.{nlt→le}
use Rattle.axis_laws.proofs.MulMono.{nonneg, cross→lt, positive_nonneg, true_of}
use Rattle.axis_laws.proofs.Width.{cells_value, cells_positive, width_positive, width_le, width_ge}
use Rattle.axis_laws.proofs.Descent.{again, start_fits, start_pattern, descend_stop, descend_step, descent_ends}
use Rattle.axis_laws.proofs.OneStep.{num_pos, one_step}
use Rattle.axis_laws.proofs.ProductBelow.{Ready, ready, product}
use Rattle.axis_laws.proofs.Passed.{sound, fit_low, fit_high, fit_finite}

pub few : (order : ℕ) → order ≤ top2 → order ≤ 32
few order h = omega arith

above_nought : (w : Float) → T (positive w) → lt nought w ≡ true
above_nought w p = true_of (lt nought w) (cross→lt nought w tt (positive_nonneg w p) (let g = num_pos w p in omega arith))

module _ (low high : Float) (order : ℕ) (answered : first_of (axis_tests low high order) ≡ 0) (sloped : eq (width low high) nought ≡ false) where
  pub wide : T (positive (width low high))
  wide =
      let s = sound low high order answered in
      let lo = fit_finite low s.low_fit in
      let hi = fit_finite high s.high_fit in
      width_positive high low (fit_low low s.low_fit) (fit_high high s.high_fit) hi lo (nlt→le high low hi lo s.ordered) sloped

  pub thick : lt (width low high) (fin false 1 (negsuc 19)) ≡ false
  unfolding axis_thin
  thick =
      let w = width low high in
      sym (ap (λ (b : Bool). b && lt w (fin false 1 (negsuc 19))) (above_nought w wide)) ∙ (sound low high order answered).not_thin

  -- while n <= w * f holds no more of the next smaller f64
  pub second_ends : le (cell_count order) (mul binary64 (width low high) (next_down (div binary64 (cell_count order) (width low high)))) ≡ false
  unfolding next_down
  second_ends =
      let s = sound low high order answered in
      let lo = fit_finite low s.low_fit in
      let hi = fit_finite high s.high_fit in
      let b = few order s.order_fit in
      one_step (cell_count order) (width low high) order b (cells_positive order b) (cells_value order b) wide
      (width_le high low (fit_low low s.low_fit) (fit_high high s.high_fit) hi lo (nlt→le high low hi lo s.ordered) wide) (width_ge (width low high) wide thick)

  -- the descent from n / width needs fuel for one step and no more
  pub at_most_one_step : factor_of low high order
      ≡ descend 1 (le (cell_count order) (mul binary64 (width low high) (div binary64 (cell_count order) (width low high)))) (cell_count order) (width low high) (div binary64 (cell_count order) (width low high))
  unfolding factor_of descend
  at_most_one_step = go (le (cell_count order) (mul binary64 (width low high) (div binary64 (cell_count order) (width low high)))) refl
    where
      go : (b : Bool) → le (cell_count order) (mul binary64 (width low high) (div binary64 (cell_count order) (width low high))) ≡ b
          → descend_from (cell_count order) (width low high) (div binary64 (cell_count order) (width low high)) ≡ descend 1 b (cell_count order) (width low high) (div binary64 (cell_count order) (width low high))
      go false e =
          let n = cell_count order in
          let w = width low high in
          let x = div binary64 n w in
          ap (λ (b : Bool). descend (to_bits binary64 x) b n w x) e ∙ descend_stop (to_bits binary64 x) n w x
      go true e =
          let n = cell_count order in
          let w = width low high in
          let x = div binary64 n w in
          let p = cells_positive order (few order (sound low high order answered).order_fit) in
          let y = next_down x in
          descend_step n w x (again n w x p wide (start_fits n w p wide) e) (start_pattern n w p wide) e
          ∙ ap (λ (b : Bool). descend (to_bits binary64 y) b n w y) second_ends
          ∙ descend_stop (to_bits binary64 y) n w y

  pub factor_ends : T (nonneg (factor_of low high order)) × T (lt (mul binary64 (width low high) (factor_of low high order)) (cell_count order)) × T (fits binary64 (factor_of low high order))
  unfolding factor_of
  factor_ends = descent_ends (cell_count order) (width low high) (cells_positive order (few order (sound low high order answered).order_fit)) wide

  pub factor_ready : (value : Float) → value_unfit value ≡ false → lt value low ≡ false → lt high value ≡ false → Ready (product (factor_of low high order) value low) order
  factor_ready v z a b =
      let s = sound low high order answered in
      let lo = fit_finite low s.low_fit in
      let hi = fit_finite high s.high_fit in
      let vo = fit_finite v z in
      ready (factor_of low high order) v low high order (few order s.order_fit) factor_ends.0 vo lo hi (nlt→le v low vo lo a) (nlt→le high v hi vo b) (nlt→le high low hi lo s.ordered) wide factor_ends.1
