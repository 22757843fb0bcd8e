-- The width of an axis that is not flat lies above zero and, as a fraction, from 2^-20 to 2^21; the number of cells is the power of two itself. Assumes nothing.
use mathlib.Core.Path.{◌≡◌, refl, sym, ap, ◌∙◌, subst}
use mathlib.Core.Logic.{inl, inr}
use Prim.Native.Nat.{ℕ, ◌+◌, ◌-◌, ◌*◌, ◌^◌, ◌≤◌}
use native.Mathlib.Nat.{mul_comm, mul_assoc, mul-le-mul_right, mul-pos, eq-zero-or-pos}
use native.Mathlib.Omega.{arith}
use mathlib.Core.Bool.{Bool, true, false, not, ◌&&◌, true≢false}
use lib.IntN.{pos, negsuc}
use lib.Dec.{T, lt→ltb, lit<}
use lib.Pow.{pow_pos, pow_mono}
use borrow.Author.Tests.{eq-eqb}
use lib.Ieee.{Float, nan, inf, fin, binary64, up, down, round, sub, le, lt, eq, of_int}
use lib.Ieee.Exact.{HasValue}
use lib.Ieee.Scale.{finite}
use lib.Ieee.Order.{round_mono}
use lib.Ieee.Back.{round_whole}
use lib.Ieee.Positive.{num, den, den_pos, positive, positive_of_value}
use Rattle.axis_laws.proofs.SubMono.{minus, plus, less, gap, sub_is, le→signed, false_of}
use Rattle.axis_laws.proofs.MulMono.{nonneg, positive_nonneg, nonneg_finite, le→cross, under, Difference, up_to, minus_zero, difference}
use Rattle.axis_laws.proofs.AtMost.{nlt→le}

-- the number of cells
pub cells_value : (o : ℕ) → o ≤ 32 → HasValue (of_int binary64 (pos (2 ^ o))) false (2 ^ o) 1
unfolding of_int
cells_value o h = round_whole binary64 false (2 ^ o) (let k : o ≤ 53 = omega arith in pow_mono k)

pub cells_positive : (o : ℕ) → o ≤ 32 → T (positive (of_int binary64 (pos (2 ^ o))))
cells_positive o h = positive_of_value (of_int binary64 (pos (2 ^ o))) (2 ^ o) 1 (cells_value o h) (pow_pos o)

pub in_size_finite : (x : Float) → T (le (fin true 1 (pos 20)) x) → T (le x (fin false 1 (pos 20))) → T (finite x)
unfolding le
in_size_finite nan h k = h
in_size_finite (inf true) h k = h
in_size_finite (inf false) h k = k
in_size_finite (fin s m e) h k = tt

plus_le : (x : Float) → T (finite x) → T (le x (fin false 1 (pos 20))) → plus x ≤ 1048576 * den x
plus_le nan p h = absurd p
plus_le (inf s) p h = absurd p
plus_le (fin true m e) p h = omega arith
plus_le (fin false m e) p h = let k = le→signed (fin false m e) (fin false 1 (pos 20)) tt tt h in omega arith

less_le : (x : Float) → T (finite x) → T (le (fin true 1 (pos 20)) x) → less x ≤ 1048576 * den x
less_le nan p h = absurd p
less_le (inf s) p h = absurd p
less_le (fin false m e) p h = omega arith
less_le (fin true m e) p h = let k = le→signed (fin true 1 (pos 20)) (fin true m e) tt tt h in omega arith

wide : (a b u v c d : ℕ) → a ≤ 1048576 * c → b ≤ 1048576 * d → (a * d + b * c - (u * d + v * c)) * 1 ≤ 2097152 * (c * d)
wide a b u v c d h k =
    let x : a * d ≤ 1048576 * c * d = mul-le-mul_right d h in
    let y : b * c ≤ 1048576 * d * c = mul-le-mul_right c k in
    omega (arith, mul_assoc 1048576 c d, mul_assoc 1048576 d c, mul_comm d c)

two_to_21 : round binary64 false 2097152 1 ≡ fin false 1 (pos 21)
unfolding round
two_to_21 = refl

not-zero : (x : Float) → T (nonneg x) → eq x (fin false 0 (pos 0)) ≡ false → T (positive x)
unfolding eq
not-zero nan p h = absurd p
not-zero (inf s) p h = absurd p
not-zero (fin true m e) p h = absurd p
not-zero (fin false m e) p h =
    elim (eq-zero-or-pos m) [
      | inl z ↦
          let w : m * up e * 1 ≡ 0 * 1 * down e = ap (λ (k : ℕ). k * up e * 1) z ∙ omega arith in
          absurd (true≢false (sym (ap (λ (b : Bool). b && true) (eq-eqb (m * up e * 1) (0 * 1 * down e) w)) ∙ h))
      | inr g ↦ lt→ltb 0 m g
    ]

-- the width of an axis that is not flat
pub width_positive : (x y : Float) → T (le (fin true 1 (pos 20)) y) → T (le x (fin false 1 (pos 20))) → T (finite x) → T (finite y) → T (le y x)
    → eq (sub binary64 x y) (fin false 0 (pos 0)) ≡ false → T (positive (sub binary64 x y))
unfolding eq
width_positive x y a b p q h z = go (difference x y p q h)
  where
    go : Difference x y → T (positive (sub binary64 x y))
    go (minus_zero _ e) = absurd (true≢false (sym (ap (λ (v : Float). eq v (fin false 0 (pos 0))) e) ∙ z))
    go (up_to t u) =
        not-zero (sub binary64 x y)
        (under (sub binary64 x y) (fin false 1 (pos 21)) u tt
        (subst (λ (v : Float). T (le v (fin false 1 (pos 21)))) (sym (sub_is binary64 x y p q h ∙ ap (λ (b : Bool). round binary64 b (gap x y) (den x * den y)) (false_of (minus x && not (minus y)) t)))
        (subst (λ (v : Float). T (le (round binary64 false (gap x y) (den x * den y)) v)) two_to_21
        (round_mono binary64 (gap x y) (den x * den y) 2097152 1 (mul-pos (den_pos x) (den_pos y)) (lit< tt) (wide (plus x) (less y) (less x) (plus y) (den x) (den y) (plus_le x p b) (less_le y q a))))))
        z

-- the width as a fraction
pub width_le : (x y : Float) → T (le (fin true 1 (pos 20)) y) → T (le x (fin false 1 (pos 20))) → T (finite x) → T (finite y) → T (le y x) → T (positive (sub binary64 x y)) → num (sub binary64 x y) ≤ 2097152 * den (sub binary64 x y)
width_le x y a b p q h z = go (difference x y p q h)
  where
    go : Difference x y → num (sub binary64 x y) ≤ 2097152 * den (sub binary64 x y)
    go (minus_zero _ e) = absurd (subst (λ (k : Float). T (positive k)) e z)
    go (up_to t u) =
        let l : T (le (sub binary64 x y) (fin false 1 (pos 21))) =
        subst (λ (v : Float). T (le v (fin false 1 (pos 21)))) (sym (sub_is binary64 x y p q h ∙ ap (λ (b : Bool). round binary64 b (gap x y) (den x * den y)) (false_of (minus x && not (minus y)) t)))
        (subst (λ (v : Float). T (le (round binary64 false (gap x y) (den x * den y)) v)) two_to_21
        (round_mono binary64 (gap x y) (den x * den y) 2097152 1 (mul-pos (den_pos x) (den_pos y)) (lit< tt) (wide (plus x) (less y) (less x) (plus y) (den x) (den y) (plus_le x p b) (less_le y q a)))) in
        let c = le→cross (sub binary64 x y) (fin false 1 (pos 21)) (positive_nonneg (sub binary64 x y) z) tt l in
        omega arith

pub width_ge : (w : Float) → T (positive w) → lt w (fin false 1 (negsuc 19)) ≡ false → den w ≤ 1048576 * num w
width_ge w p h =
    let c = le→cross (fin false 1 (negsuc 19)) w tt (positive_nonneg w p) (nlt→le w (fin false 1 (negsuc 19)) (nonneg_finite w (positive_nonneg w p)) tt h) in
    omega arith
