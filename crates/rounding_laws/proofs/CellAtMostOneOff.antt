-- The cell of an accepted value differs by at most 1 from the whole part of (value - low) * 2^order / (high - low), the differences exact, and is
-- that whole part where the quotient is clear of borders. Five errors lie between the two: the roundings of the width, of the quotient
-- 2^order / width, of the value's distance from low and of the product, and the quotient's step down. Each moves its result by one part in 2^52 at
-- most, and the product is at most 2^32. Assumes nothing.
use mathlib.Core.Path.{◌≡◌, refl, sym, subst}
use mathlib.Core.Logic.{◌⊎◌, inl, inr}
use Prim.Native.Nat.{ℕ}
use mathlib.Core.Bool.{Bool, true, false, cond}
use lib.Dec.{T}
use lib.Ieee.{Float, binary64, mul, div, le, lt, eq, to_unsigned}
use Rattle.rules.specs.Refusals.{first_of, nought, width, value_unfit, axis_tests, cell_tests}
use Rattle.rules.specs.Axis.{cell_count, next_down, descend, factor_of, axis_of, low_of, high_of, made_up, cell_on, cell_of}
use Rattle.rules.specs.declared.Axis.{Axis}
use Rattle.rules.specs.declared.Axis.TheVariants.{Flat, Sloped}
use Rattle.std.specs.Prelude.{Ok}
use Rattle.requests.specs.Scaled.{IsF64}
use Rattle.requests.specs.Rounding.{NearCell, NearOn, AxisIsF64, CellAtMostOneOff, RecordAtMostOneOff}
use Rattle.axis_laws.proofs.AtMost.{nlt→le}
use Rattle.axis_laws.proofs.Width.{width_le, width_ge}
use Rattle.axis_laws.proofs.ProductBelow.{product}
use Rattle.axis_laws.proofs.Passed.{sound, inside, fit_low, fit_high, fit_finite}
use Rattle.axis_laws.proofs.AtMostOneStep.{few, wide, thick, at_most_one_step, factor_ready}
use Rattle.axis_laws.proofs.MadeUp.{in_format, answered}
use Rattle.axis_laws.proofs.CellBelow.{slope, cell_found}
use Rattle.axis_laws.proofs.AxisAccepts.{in_format_lem}
use Rattle.rounding_laws.proofs.ScaledValue.{f64_fits, fits_f64}
use Rattle.rounding_laws.proofs.CellClose.{near_cell}

-- EVERY ACCEPTED VALUE

module _ (low high : Float) (order : ℕ) (made : first_of (axis_tests low high order) ≡ 0) (sloped : eq (width low high) nought ≡ false) where
  abbrev quotient : Float
  quotient = div binary64 (cell_count order) (width low high)

  factor_stepped : (factor_of low high order ≡ quotient) ⊎ (factor_of low high order ≡ next_down quotient)
  unfolding descend
  factor_stepped = go (le (cell_count order) (mul binary64 (width low high) quotient)) (at_most_one_step low high order made sloped)
    where
      go : (b : Bool) → factor_of low high order ≡ descend 1 b (cell_count order) (width low high) quotient → (factor_of low high order ≡ quotient) ⊎ (factor_of low high order ≡ next_down quotient)
      go false e = inl e
      go true e = inr e

  factor_near : (value : Float) → IsF64 low → IsF64 high → IsF64 value → value_unfit value ≡ false → lt value low ≡ false → lt high value ≡ false
      → NearCell low high value order (to_unsigned 64 (product (factor_of low high order) value low))
  factor_near value low64 high64 value64 fit above below =
      let s = sound low high order made in
      let lo = fit_finite low s.low_fit in
      let hi = fit_finite high s.high_fit in
      let va = fit_finite value fit in
      let lh = nlt→le high low hi lo s.ordered in
      let p = wide low high order made sloped in
      near_cell low high order (few order s.order_fit) lo hi (f64_fits low low64) (f64_fits high high64) lh p
      (width_le high low (fit_low low s.low_fit) (fit_high high s.high_fit) hi lo lh p) (width_ge (width low high) p (thick low high order made sloped))
      (factor_of low high order) factor_stepped value va (f64_fits value value64) (nlt→le value low va lo above) (nlt→le high value hi va below)
      (factor_ready low high order made sloped value fit above below)

-- OF EVERY RECORD, whoever wrote it: one that accepts a value is made; on a flat axis every cell is 0

pub on_near : (a : Axis) (value : Float) → AxisIsF64 a → IsF64 value → first_of (cell_tests (made_up a) (low_of a) (high_of a) value) ≡ 0 → NearOn a value (cell_on a value)
unfolding cell_on
on_near (Flat low high order) value a64 value64 accepted = refl
on_near (Sloped low high order factor) value a64 value64 accepted =
    let i = inside (made_up (Sloped low high order factor)) low high value accepted in
    let s = slope low high order factor (f64_fits factor a64.2) i.made in
    subst (λ (f : Float). NearCell low high value order (to_unsigned 64 (product f value low))) (sym s.is_factor)
    (factor_near low high order s.answered s.wide value a64.0 a64.1 value64 i.value_fit i.not-below i.not_above)

pub record_at_most_one_off : RecordAtMostOneOff
record_at_most_one_off a value c a64 value64 cell = let f = cell_found a value c cell in subst (NearOn a value) f.1 (on_near a value a64 value64 f.0)

-- OF AN AXIS THAT IS MADE

-- of f64s it has f64s
pub made_is_f64 : (low high : Float) (order : ℕ) → IsF64 low → IsF64 high → first_of (axis_tests low high order) ≡ 0 → AxisIsF64 (axis_of low high order)
unfolding axis_of
made_is_f64 low high order l h made = go (eq (width low high) nought) (in_format_lem low high order made)
  where
    go : (b : Bool) → let a = cond b (Flat low high order) (Sloped low high order (factor_of low high order)) in T (in_format a) → AxisIsF64 a
    go true f = (l, h)
    go false f = (l, h, fits_f64 (factor_of low high order) f)

pub made_at_most_one_off : (low high value : Float) (order c : ℕ) → IsF64 low → IsF64 high → IsF64 value → first_of (axis_tests low high order) ≡ 0
    → cell_of (axis_of low high order) value ≡ Ok c → NearOn (axis_of low high order) value c
made_at_most_one_off low high value order c low64 high64 value64 made = record_at_most_one_off (axis_of low high order) value c (made_is_f64 low high order low64 high64 made) value64

pub cell_at_most_one_off : CellAtMostOneOff
cell_at_most_one_off low high factor value order c low64 high64 value64 made =
    let r = answered low high order (Sloped low high order factor) made in
    record_at_most_one_off (Sloped low high order factor) value c (subst AxisIsF64 r.1 (made_is_f64 low high order low64 high64 r.0)) value64
