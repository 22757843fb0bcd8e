-- Of an axis as the rules make it, at an order up to 32, and a value on it: the whole part of factor * (value - low) is near that of the exact
-- quotient. Each rounded value is a whole number of units of 2^-1074, and ErrorsAddUp says how far all roundings move the product. Assumes
-- nothing.
use mathlib.Core.Path.{◌≡◌, refl, sym, ap, ap₂, ◌∙◌, subst}
use mathlib.Core.Logic.{◌⊎◌, inl, inr}
use Prim.Native.Nat.{ℕ, ◌+◌, ◌-◌, ◌*◌, ◌/◌, ◌^◌, ◌≤◌, ◌<◌}
use native.Mathlib.Nat.{lt_irrefl, le_trans, le_of_eq, le_of_lt, lt_of_lt_of_le, lt_of_le_of_lt, mul_comm, mul_assoc, mul_left_comm, mul_right_comm, mul-mul-mul_comm, mul-le-mul_right, mul-le-mul_left, mul-lt-mul_of_pos_right, le_of_mul-le-mul_right, lt_of_mul-lt-mul_right, mul-pos, one-mul, zero-mul, add-mul, div-mul-le_self, lt-mul-div-succ, div-lt_iff_lt-mul, div-eq_of_lt-le, min-eq_left, eq_of_mul-eq-mul_right}
use native.Mathlib.Omega.{arith}
use mathlib.Core.Bool.{Bool, true, false, not, ◌&&◌}
use lib.IntN.{ℤ, pos, ◌+ℤ◌, ◌-ℤ◌, +ℤ_comm, -ℤ-+ℤ_cancel}
use lib.Dec.{T, lit<, lit≤}
use lib.Pow.{pow_pos, pow_mono}
use lib.Ieee.{Float, nan, inf, fin, binary64, fits, round, mul, div, sub, le, of_bits, to_bits, to_unsigned}
use lib.Ieee.Exact.{HasValue}
use lib.Ieee.Nearest.{div_same}
use lib.Ieee.Scale.{round_same, grid, finite}
use lib.Ieee.Positive.{num, den, den_pos, positive, value→cross, value_pos}
use Rattle.rules.specs.Refusals.{width}
use Rattle.rules.specs.Axis.{cell_count, next_down}
use Rattle.requests.specs.Scaled.{scaled}
use Rattle.requests.specs.Rounding.{AtMostOneOff, Clear, NearCell}
use Rattle.axis_laws.proofs.SubMono.{minus, gap, sub_is, sub_mono, false_of}
use Rattle.axis_laws.proofs.StepPattern.{upward}
use Rattle.axis_laws.proofs.MulMono.{nonneg, positive_nonneg, under, mul_is, mul_upward, Difference, up_to, minus_zero, difference}
use Rattle.axis_laws.proofs.OneStep.{H, k, Q, value_below, quotient_value, quotient_bits, quotient_is, value_nonneg, num_pos}
use Rattle.axis_laws.proofs.Width.{cells_value, cells_positive}
use Rattle.axis_laws.proofs.ProductBelow.{Ready, at, zero_below, product, mul_minus_zero}
use Rattle.rounding_laws.proofs.RoundNear.{Near, grid_near, rounded_value}
use Rattle.rounding_laws.proofs.ErrorsAddUp.{Most, through, times, less_of, fine_most, fine_least, whole_most, whole_least, product_most, product_least, Within}
use Rattle.rounding_laws.proofs.ErrorsAddUp as all
use Rattle.rounding_laws.proofs.ScaledValue.{gap_scaled, gap_value, gap_grows, scaled_gap}

-- FROM UNITS TO CELLS

-- c is at most 1 off the whole part of e * n / v, and is that whole part where e * n / v is clear of borders
pub record Close (e v order c : ℕ) : Type 0 where
  pub one_off : AtMostOneOff e v order c
  pub exact : (q : ℕ) → Clear e v order q → c ≡ q

-- from a product p / s to its whole part
module _ (s e v order p : ℕ) (s0 : 0 < s) (v0 : 0 < v) (small : order ≤ 32) (within : Within s e v (2 ^ order) p) where
  abbrev n : ℕ
  n = 2 ^ order

  -- the error is a small part of 1
  share : n * (v * s) ≤ 4294967296 * (v * s)
  share = mul-le-mul_right (v * s) (pow_mono {i = order} {j = 32} small)

  not_above : p / s * v ≤ e * n + v
  not_above =
      le_of_mul-le-mul_right (le_trans (le_of_eq (mul_right_comm (p / s) v s)) (le_trans (mul-le-mul_right v (div-mul-le_self p s))
      (le_trans (go (p * v) (e * n * s) (v * s) (n * (v * s)) within.most share) (le_of_eq (sym (add-mul (e * n) v s)))))) s0
    where
      go : (x y z u : ℕ) → H * x ≤ H * y + 8 * u → u ≤ 4294967296 * z → x ≤ y + z
      go x y z u h k = omega arith

  not-below : e * n < (p / s + 2) * v
  not-below =
      let a : p + s ≤ (p / s + 2) * s = omega (arith, lt-mul-div-succ p s0, mul_comm s (p / s + 1), add-mul (p / s) 1 s, add-mul (p / s) 2 s) in
      lt_of_mul-lt-mul_right s
      (lt_of_lt_of_le (go (p * v) (e * n * s) (v * s) (n * (v * s)) (mul-pos v0 s0) within.least share)
      (le_trans (le_of_eq (ap (λ (z : ℕ). p * v + z) (mul_comm v s) ∙ sym (add-mul p s v))) (le_trans (mul-le-mul_right v a) (le_of_eq (mul_right_comm (p / s + 2) s v)))))
    where
      go : (x y z u : ℕ) → 0 < z → H * y ≤ H * x + 8 * u → u ≤ 4294967296 * z → y < x + z
      go x y z u z0 h k = omega arith

  exact : (q : ℕ) → Clear e v order q → p / s ≡ q
  exact q clear = div-eq_of_lt-le s reaches short
    where
      low : 2 ^ 49 * (q * v * s) + n * (v * s) ≤ 2 ^ 49 * (e * n * s)
      low =
          le_trans (le_of_eq (sym (add-mul (2 ^ 49 * (q * v)) (n * v) s ∙ ap₂ (λ (x y : ℕ). x + y) (mul_assoc (2 ^ 49) (q * v) s) (mul_assoc n v s))))
          (le_trans (mul-le-mul_right s clear.from_below) (le_of_eq (mul_assoc (2 ^ 49) (e * n) s)))

      high : 2 ^ 49 * (e * n * s) + n * (v * s) < 2 ^ 49 * ((q + 1) * v * s)
      high =
          lt_of_le_of_lt (le_of_eq (sym (add-mul (2 ^ 49 * (e * n)) (n * v) s ∙ ap₂ (λ (x y : ℕ). x + y) (mul_assoc (2 ^ 49) (e * n) s) (mul_assoc n v s))))
          (lt_of_lt_of_le (mul-lt-mul_of_pos_right clear.from_above s0) (le_of_eq (mul_assoc (2 ^ 49) ((q + 1) * v) s)))

      under : (x y z u : ℕ) → 562949953421312 * x + u ≤ 562949953421312 * y → H * y ≤ H * z + 8 * u → x ≤ z
      under x y z u h k = omega arith

      over : (x y z u : ℕ) → 562949953421312 * y + u < 562949953421312 * x → H * z ≤ H * y + 8 * u → z < x
      over x y z u h k = omega arith

      reaches : q * s ≤ p
      reaches = le_of_mul-le-mul_right (le_trans (le_of_eq (mul_right_comm q s v)) (under (q * v * s) (e * n * s) (p * v) (n * (v * s)) low within.least)) v0

      short : p < (q + 1) * s
      short = lt_of_mul-lt-mul_right v (lt_of_lt_of_le (over ((q + 1) * v * s) (e * n * s) (p * v) (n * (v * s)) high within.most) (le_of_eq (mul_right_comm (q + 1) v s)))

  close_of : Close e v order (p / s)
  close_of = record { one_off = record { one_less_at_most = not_above; two_more_above = not-below }; exact = exact }

-- the value low itself: its cell is 0, and it lies on a border
close_at_low : (v order : ℕ) → 0 < v → Close 0 v order 0
close_at_low v order v0 =
    record {
      one_off = record { one_less_at_most = rw (zero-mul v, zero-mul (2 ^ order)) (omega arith); two_more_above = rw (zero-mul (2 ^ order)) (mul-pos (lit< tt) v0) };
      exact = λ q clear. absurd (lt_irrefl 0 (lt_of_lt_of_le (mul-pos (pow_pos order) v0) (go (2 ^ 49 * (q * v)) (2 ^ order * v) (rw (zero-mul (2 ^ order)) at clear.from_below))));
    }
  where
    go : (x y : ℕ) → x + y ≤ 2 ^ 49 * 0 → y ≤ 0
    go x y h = omega arith

-- the whole part of a product that lies below 2^o
unsigned_is : (p : Float) (o : ℕ) → o ≤ 32 → T (nonneg p) → num p < 2 ^ o * den p → to_unsigned 64 p ≡ num p / den p
unfolding to_unsigned
unsigned_is nan o small q h = absurd q
unsigned_is (inf t) o small q h = absurd q
unsigned_is (fin true m e) o small q h = absurd q
unsigned_is (fin false m e) o small q h = min-eq_left (le_trans (le_of_lt (lt_of_lt_of_le ((div-lt_iff_lt-mul (den_pos (fin false m e))).1 h) (pow_mono {i = o} {j = 32} small))) (lit≤ tt))

unsigned_zero : (p : Float) → p ≡ fin true 0 (pos 0) → to_unsigned 64 p ≡ 0
unfolding to_unsigned
unsigned_zero p e = ap (to_unsigned 64) e

-- a difference of whole numbers, as a distance
from_low : (x y : Float) (e : ℕ) → scaled x -ℤ scaled y ≡ pos e → scaled y +ℤ pos e ≡ scaled x
from_low x y e h = +ℤ_comm (scaled y) (pos e) ∙ ap (λ (z : ℤ). z +ℤ scaled y) (sym h) ∙ -ℤ-+ℤ_cancel (scaled x) (scaled y)

-- THE ROUNDED VALUES, in units of 2^-1074

abbrev one : ℕ
one = 2 ^ 1074

-- the difference of two f64s
module _ (x y : Float) (xo : T (finite x)) (yo : T (finite y)) (x64 : T (fits binary64 x)) (y64 : T (fits binary64 y)) (yx : T (le y x)) where
  difference_is : T (not (minus x && not (minus y))) → sub binary64 x y ≡ round binary64 false (gap_scaled x y) one
  difference_is t =
      sub_is binary64 x y xo yo yx
      ∙ ap (λ (b : Bool). round binary64 b (gap x y) (den x * den y)) (false_of (minus x && not (minus y)) t)
      ∙ round_same binary64 false (gap x y) (den x * den y) (gap_scaled x y) one (mul-pos (den_pos x) (den_pos y)) (pow_pos 1074) (gap_value x y xo yo x64 y64)

  no_difference : gap x y ≡ 0 → gap_scaled x y ≡ 0
  no_difference z =
      eq_of_mul-eq-mul_right (den x * den y) (mul-pos (den_pos x) (den_pos y)) (gap_scaled x y) 0
      (sym (gap_value x y xo yo x64 y64) ∙ ap (λ (n : ℕ). n * one) z ∙ zero-mul one ∙ sym (zero-mul (den x * den y)))

-- a bound of x / y that is a bound of x' / y'
bound_over : (x y x' y' K : ℕ) → 0 < y → x * y' ≡ x' * y → x ≤ K * y → x' ≤ K * y'
bound_over x y x' y' K y0 e h = le_of_mul-le-mul_right (le_trans (le_of_eq (sym e)) (le_trans (mul-le-mul_right y' h) (le_of_eq (mul_right_comm K y y')))) y0

bound_under : (x y x' y' K : ℕ) → 0 < y → x * y' ≡ x' * y → y ≤ K * x → y' ≤ K * x'
bound_under x y x' y' K y0 e h =
    le_of_mul-le-mul_right (le_trans (mul-le-mul_left y' h) (le_of_eq (mul_left_comm y' K x ∙ ap (λ (z : ℕ). K * z) (mul_comm y' x ∙ e) ∙ sym (mul_assoc K x' y)))) y0

-- f / 2^1074 is the quotient x / 2^1074 or the value below it
record Stepped (factor : Float) (x : ℕ) : Type 0 where
  units : ℕ
  value : HasValue factor false units one
  no_more : units ≤ x
  close : Most 1 x units

module _ (low high : Float) (order : ℕ) (small : order ≤ 32) (lo : T (finite low)) (hi : T (finite high)) (low64 : T (fits binary64 low)) (high64 : T (fits binary64 high)) (lh : T (le low high))
    (positive-width : T (positive (width low high))) (wide : num (width low high) ≤ 2097152 * den (width low high)) (thick : den (width low high) ≤ 1048576 * num (width low high)) where
  abbrev w : Float
  w = width low high

  abbrev quotient : Float
  quotient = div binary64 (cell_count order) w

  -- the exact width, the rounded one, the quotient
  abbrev v : ℕ
  v = gap_scaled high low

  abbrev W : ℕ
  W = grid binary64 v one

  abbrev X : ℕ
  X = grid binary64 (2 ^ order * one) W

  width_is : w ≡ round binary64 false v one
  width_is = go (difference high low hi lo lh)
    where
      go : Difference high low → w ≡ round binary64 false v one
      go (minus_zero _ e) = absurd (subst (λ (z : Float). T (positive z)) e positive-width)
      go (up_to t u) = difference_is high low hi lo high64 low64 lh t

  width_value : HasValue w false W one
  width_value = rounded_value w v one (positive_nonneg w positive-width) width_is

  W0 : 0 < W
  W0 = value_pos w W one positive-width (pow_pos 1074) width_value

  wide_units : W ≤ 2097152 * one
  wide_units = bound_over (num w) (den w) W one 2097152 (den_pos w) (value→cross w W one width_value) wide

  thick_units : one ≤ 1048576 * W
  thick_units = bound_under (num w) (den w) W one 1048576 (den_pos w) (value→cross w W one width_value) thick

  width_most : Most 1 W v
  width_most = whole_most W v one (pow_pos 1074) (grid_near v one (pow_pos 1074))

  width_least : Most 1 v W
  width_least = whole_least W v one (pow_pos 1074) (grid_near v one (pow_pos 1074))

  v0 : 0 < v
  v0 = go W v W0 width_most.most
    where
      go : (a b : ℕ) → 0 < a → H * a ≤ (H + 1) * b → 0 < b
      go a b h k = omega arith

  quotient_near : Near X (2 ^ order * one * one) W
  quotient_near = grid_near (2 ^ order * one) W W0

  quotient_fine : H * quotient_near.u ≤ 2 ^ order * one * one
  quotient_fine = go quotient_near.step
    where
      large : H * W ≤ 2 ^ order * one * one
      large =
          le_trans (mul-le-mul_left H wide_units)
          (le_trans (le_of_eq (sym (mul_assoc H 2097152 one)))
          (mul-le-mul_right one (le_trans (lit≤ {m = H * 2097152} {n = one} tt) (le_trans (le_of_eq (sym (one-mul one))) (mul-le-mul_right one (pow_pos order))))))

      go : (quotient_near.u ≡ W) ⊎ (H * quotient_near.u ≤ 2 ^ order * one * one) → H * quotient_near.u ≤ 2 ^ order * one * one
      go (inl e) = le_trans (le_of_eq (ap (λ (z : ℕ). H * z) e)) large
      go (inr h) = h

  quotient_rounded : quotient ≡ round binary64 false (2 ^ order * one) W
  quotient_rounded =
      quotient_is (cell_count order) w order small (cells_positive order small) (cells_value order small) positive-width wide thick
      ∙ round_same binary64 false (2 ^ order * den w) (num w) (2 ^ order * one) W (num_pos w positive-width) W0
      (mul_assoc (2 ^ order) (den w) W ∙ ap (λ (z : ℕ). 2 ^ order * z) (mul_comm (den w) W ∙ sym (value→cross w W one width_value) ∙ mul_comm (num w) one) ∙ sym (mul_assoc (2 ^ order) one (num w)))

  stepped : (factor : Float) → (factor ≡ quotient) ⊎ (factor ≡ next_down quotient) → Stepped factor X
  unfolding next_down
  stepped factor (inl e) =
      record {
        units = X;
        value = subst (λ (z : Float). HasValue z false X one) (sym (e ∙ quotient_rounded)) (quotient_value order W one small W0 (pow_pos 1074) wide_units thick_units);
        no_more = le_of_eq refl;
        close = record { most = mul-le-mul_right X (lit≤ {m = H} {n = H + 1} tt) };
      }
  stepped factor (inr e) =
      let b = value_below order W one small W0 (pow_pos 1074) wide_units thick_units in
      let is : factor ≡ of_bits binary64 (k order W one small W0 (pow_pos 1074) wide_units thick_units * H + Q order W one small W0 (pow_pos 1074) wide_units thick_units - 1) =
      e ∙ ap (λ (z : Float). of_bits binary64 (to_bits binary64 z - 1)) quotient_rounded ∙ ap (λ (z : ℕ). of_bits binary64 (z - 1)) (quotient_bits order W one small W0 (pow_pos 1074) wide_units thick_units) in
      record { units = b.units; value = subst (λ (z : Float). HasValue z false b.units one) (sym is) b.value; no_more = b.no_more; close = record { most = b.close } }

  -- A VALUE ON THE AXIS

  module _ (factor : Float) (is-stepped : (factor ≡ quotient) ⊎ (factor ≡ next_down quotient)) (value : Float) (va : T (finite value)) (value64 : T (fits binary64 value)) (lv : T (le low value)) (vh : T (le value high)) where
    abbrev distance : Float
    distance = sub binary64 value low

    abbrev result : Float
    result = product factor value low

    -- the exact distance from low, the rounded one, the factor, the product
    abbrev e : ℕ
    e = gap_scaled value low

    abbrev D : ℕ
    D = grid binary64 e one

    abbrev F : ℕ
    F = (stepped factor is-stepped).units

    abbrev P : ℕ
    P = grid binary64 (F * D) (one * one)

    factor_nonneg : T (nonneg factor)
    factor_nonneg = value_nonneg factor F one (stepped factor is-stepped).value

    factor_most : Most 1 (F * W) (2 ^ order * one * one)
    factor_most = less_of (mul-le-mul_right W (stepped factor is-stepped).no_more) (fine_most quotient_near quotient_fine)

    factor_least : Most 2 (2 ^ order * one * one) (F * W)
    factor_least = through (fine_least quotient_near quotient_fine) (times W (stepped factor is-stepped).close)

    module _ (t : T (not (minus value && not (minus low)))) (nonneg_distance : T (nonneg distance)) (nonneg-product : T (nonneg result)) (below : num result < 2 ^ order * den result) where
      distance_value : HasValue distance false D one
      distance_value = rounded_value distance e one nonneg_distance (difference_is value low va lo value64 low64 lv t)

      product_is : result ≡ round binary64 false (F * D) (one * one)
      product_is =
          mul_is binary64 factor distance factor_nonneg nonneg_distance
          ∙ round_same binary64 false (num factor * num distance) (den factor * den distance) (F * D) (one * one) (mul-pos (den_pos factor) (den_pos distance)) (mul-pos (pow_pos 1074) (pow_pos 1074))
          (mul-mul-mul_comm (num factor) (num distance) one one
          ∙ ap (λ (z : ℕ). z * (num distance * one)) (value→cross factor F one (stepped factor is-stepped).value)
          ∙ ap (λ (z : ℕ). F * den factor * z) (value→cross distance D one distance_value)
          ∙ mul-mul-mul_comm F (den factor) D (den distance))

      product_cross : num result * one ≡ P * den result
      product_cross = value→cross result P one (rounded_value result (F * D) (one * one) nonneg-product product_is)

      product_near : Near P (F * D * one) (one * one)
      product_near = grid_near (F * D) (one * one) (mul-pos (pow_pos 1074) (pow_pos 1074))

      P-below : P < 2 ^ order * one
      P-below =
          lt_of_mul-lt-mul_right (den result)
          (lt_of_le_of_lt (le_of_eq (sym product_cross))
          (lt_of_lt_of_le (mul-lt-mul_of_pos_right below (pow_pos 1074)) (le_of_eq (mul_right_comm (2 ^ order) (den result) one))))

      cell_is : to_unsigned 64 result ≡ P / one
      cell_is =
          unsigned_is result order small nonneg-product below
          ∙ div_same (num result) (den result) P one (den_pos result) (pow_pos 1074) product_cross

      product_within : Within one e v (2 ^ order) P
      product_within =
          let inside = gap_grows value high low va hi value64 high64 vh in
          let large : H ≤ one = lit≤ tt in
          let near = grid_near e one (pow_pos 1074) in
          record {
            most = all.not_above one e D v W (2 ^ order) F P large inside (pow_pos order) (product_most P F D one (pow_pos 1074) product_near) (whole_most D e one (pow_pos 1074) near) factor_most width_least;
            least = all.not-below one e D v W (2 ^ order) F P large inside (pow_pos order) P-below (product_least P F D one (pow_pos 1074) product_near) (whole_least D e one (pow_pos 1074) near) factor_least width_most;
          }

      product_close : Close e v order (P / one)
      product_close = close_of one e v order P (pow_pos 1074) v0 small product_within

    cell_close : Ready result order → Close e v order (to_unsigned 64 result)
    cell_close ready = go (difference value low va lo lv) (difference high low hi lo lh) ready
      where
        go : Difference value low → Difference high low → Ready result order → Close e v order (to_unsigned 64 result)
        go d (minus_zero _ z) r = absurd (subst (λ (x : Float). T (positive x)) z positive-width)
        go (minus_zero g z) (up_to t' u') r =
            let c = unsigned_zero result (ap (mul binary64 factor) z ∙ mul_minus_zero factor factor_nonneg) in
            rw (c, no_difference value low va lo value64 low64 lv g) (close_at_low v order v0)
        go (up_to t u) (up_to t' u') r = by_product r
          where
            nonneg_distance : T (nonneg distance)
            nonneg_distance = under distance w u (positive_nonneg w positive-width) (sub_mono binary64 value high low va hi lo lv lh vh t t')

            by_product : Ready result order → Close e v order (to_unsigned 64 result)
            by_product (at p b) = rw (cell_is t nonneg_distance p b) (product_close t nonneg_distance p b)
            by_product (zero_below z) = absurd (subst (λ (x : Float). T (upward x)) z (mul_upward binary64 factor distance factor_nonneg nonneg_distance))

    pub near_cell : Ready (product factor value low) order → NearCell low high value order (to_unsigned 64 (product factor value low))
    near_cell ready =
        let c = cell_close ready in
        record {
          place = record {
            across = e;
            whole = v;
            to_value = from_low value low e (scaled_gap value low va lo value64 low64 lv);
            to_high = from_low high low v (scaled_gap high low hi lo high64 low64 lh);
            not_flat = v0;
          };
          one_off = c.one_off;
          exact = c.exact;
        }
