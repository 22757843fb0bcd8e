-- The product f * (value - low) rounds to less than 2^o: value - low is at most the width as both are rounded, f times it at most f times the
-- width, and that lies below the number of cells. Assumes nothing.
use mathlib.Core.Path.{◌≡◌, sym, ap, ◌∙◌, subst}
use Prim.Native.Nat.{ℕ, ◌+◌, ◌-◌, ◌*◌, ◌/◌, ◌^◌, ◌≤◌, ◌<◌}
use native.Mathlib.Nat.{le_of_eq, lt_of_lt_of_le, lt_of_le_of_lt, mul_right_comm, mul-le-mul_right, lt_of_mul-lt-mul_right, mul-pos, mul-one, mul-zero, div-lt_iff_lt-mul, min-le_left}
use native.Mathlib.Omega.{arith}
use mathlib.Core.Bool.{true, false}
use lib.IntN.{pos}
use lib.Dec.{T, lt→ltb, lit<}
use lib.Pow.{pow_pos, pow_mono}
use lib.Ieee.{Float, nan, inf, fin, binary64, up, down, round, mul, sub, le, lt, of_int, to_unsigned}
use lib.Ieee.Fits.{down_pos}
use lib.Ieee.Scale.{finite}
use lib.Ieee.Positive.{num, den, positive, value→cross}
use Rattle.axis_laws.proofs.SubMono.{sub_mono}
use Rattle.axis_laws.proofs.MulMono.{nonneg, positive_nonneg, round-zero, lt→cross, cross→lt, under, below, le_lt, mul_upward, mul_comm_nonneg, mul_mono, Difference, up_to, minus_zero, difference}
use Rattle.axis_laws.proofs.Width.{cells_value, cells_positive}

-- the cell: f * (v - l), with low ≤ v ≤ high
abbrev pub product : Float → Float → Float → Float
product f v l = mul binary64 f (sub binary64 v l)

shift : (a d n b c : ℕ) → a * d < n * b → n * 1 ≡ c * d → a < c * b
shift a d n b c h e = lt_of_mul-lt-mul_right d (lt_of_lt_of_le h (le_of_eq (ap (λ (z : ℕ). z * b) (sym (mul-one n) ∙ e) ∙ mul_right_comm c d b)))

-- not negative, or -0
pub data Ready (x : Float) (o : ℕ) : Type 0 where
  at : T (nonneg x) → num x < 2 ^ o * den x → Ready x o
  zero_below : x ≡ fin true 0 (pos 0) → Ready x o

pub mul_minus_zero : (f : Float) → T (nonneg f) → mul binary64 f (fin true 0 (pos 0)) ≡ fin true 0 (pos 0)
unfolding mul
mul_minus_zero (fin false m e) p = ap (λ (a : ℕ). round binary64 true a (down e * 1)) (mul-zero (m * up e)) ∙ round-zero true (down e * 1) (mul-pos (down_pos e) (lit< tt))
mul_minus_zero nan p = absurd p
mul_minus_zero (inf s) p = absurd p
mul_minus_zero (fin true m e) p = absurd p

module _ (f v l h : Float) (o : ℕ) (small : o ≤ 32) (fo : T (nonneg f)) (vo : T (finite v)) (lo : T (finite l)) (ho : T (finite h)) (a : T (le l v)) (b : T (le v h)) (c : T (le l h))
    (wo : T (positive (sub binary64 h l))) (e : T (lt (mul binary64 (sub binary64 h l) f) (of_int binary64 (pos (2 ^ o))))) where
  pub ready : Ready (product f v l) o
  ready = go (difference v l vo lo a) (difference h l ho lo c)
    where
      go : Difference v l → Difference h l → Ready (product f v l) o
      go (minus_zero _ z) d = zero_below (ap (mul binary64 f) z ∙ mul_minus_zero f fo)
      go (up_to t u) (minus_zero _ z) = absurd (subst (λ (k : Float). T (positive k)) z wo)
      go (up_to t u) (up_to t' u') =
          let x = sub binary64 v l in
          let w = sub binary64 h l in
          let n = of_int binary64 (pos (2 ^ o)) in
          let w0 = positive_nonneg w wo in
          let n0 = positive_nonneg n (cells_positive o small) in
          let xw : T (le x w) = sub_mono binary64 v h l vo ho lo a c b t t' in
          let x0 = under x w u w0 xw in
          let k : T (lt (mul binary64 f w) n) = subst (λ (z : Float). T (lt z n)) (mul_comm_nonneg binary64 w f w0 fo) e in
          let p0 = below (mul binary64 f w) n (mul_upward binary64 f w fo w0) n0 k in
          let m = mul_mono binary64 f x w fo x0 w0 xw in
          let y0 = under (mul binary64 f x) (mul binary64 f w) (mul_upward binary64 f x fo x0) p0 m in
          let r = lt→cross (mul binary64 f x) n y0 n0 (le_lt (mul binary64 f x) (mul binary64 f w) n y0 p0 n0 m k) in
          at y0 (shift (num (mul binary64 f x)) (den n) (num n) (den (mul binary64 f x)) (2 ^ o) r (value→cross n (2 ^ o) 1 (cells_value o small)))

pub ready_lower : (x : Float) (o : ℕ) → Ready x o → T (lt (fin true 1 (pos 0)) x)
unfolding lt
ready_lower x o (zero_below e) = subst (λ (z : Float). T (lt (fin true 1 (pos 0)) z)) (sym e) tt
ready_lower nan o (at p q) = absurd p
ready_lower (inf s) o (at p q) = absurd p
ready_lower (fin true m e) o (at p q) = absurd p
ready_lower (fin false m e) o (at p q) = let d = down_pos e in lt→ltb 0 (1 * 1 * down e + m * up e * 1) (omega arith)

pub ready_upper : (x : Float) (o : ℕ) → o ≤ 32 → Ready x o → T (lt x (fin false 1 (pos 64)))
unfolding lt
ready_upper x o s (zero_below e) = subst (λ (z : Float). T (lt z (fin false 1 (pos 64)))) (sym e) tt
ready_upper x o s (at p q) =
    let k : 2 ^ o * den x ≤ 2 ^ 64 * den x = mul-le-mul_right (den x) (let k : o ≤ 64 = omega arith in pow_mono k) in
    cross→lt x (fin false 1 (pos 64)) p tt (omega arith)

pub ready_cell : (x : Float) (o : ℕ) → Ready x o → to_unsigned 64 x < 2 ^ o
unfolding to_unsigned
ready_cell x o (zero_below e) = subst (λ (z : Float). to_unsigned 64 z < 2 ^ o) (sym e) (pow_pos o)
ready_cell nan o (at p q) = absurd p
ready_cell (inf s) o (at p q) = absurd p
ready_cell (fin true m e) o (at p q) = absurd p
ready_cell (fin false m e) o (at p q) = lt_of_le_of_lt (min-le_left (m * up e / down e) (2 ^ 64 - 1)) ((div-lt_iff_lt-mul (down_pos e)).1 q)
