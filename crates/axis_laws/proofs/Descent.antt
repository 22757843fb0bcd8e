-- The factor's loop: each step lowers the bit pattern by one, it ends, and the width times the factor it ends with lies below the number of cells. Assumes nothing.
use mathlib.Core.Path.{◌≡◌, refl, sym, ap, ◌∙◌, subst}
use mathlib.Core.Logic.{inl, inr}
use Prim.Native.Nat.{ℕ, zero, suc, ◌-◌, ◌*◌, ◌≤◌, ◌<◌}
use native.Mathlib.Nat.{mul-pos, mul-zero, eq-zero-or-pos}
use native.Mathlib.Omega.{arith}
use mathlib.Core.Bool.{Bool, true, false, not, cond, true≢false}
use lib.IntN.{pos}
use lib.Dec.{T, eqb, ltb→lt, lit<}
use borrow.Author.Tests.{ne_eqb}
use lib.Ieee.{Float, nan, inf, fin, binary64, up, down, round, mul, div, le, lt, to_bits, fits}
use lib.Ieee.Bits.{of_bits-fits}
use lib.Ieee.Fits.{div-fits}
use lib.Ieee.Positive.{num, den, den_pos, positive}
use Rattle.rules.specs.Axis.{next_down, descend, descend_from}
use Rattle.axis_laws.proofs.SubMono.{cond_no}
use Rattle.axis_laws.proofs.StepPattern.{upward, last, pattern_le, zero_of_pattern, upward_of_pattern, step_pattern}
use Rattle.axis_laws.proofs.MulMono.{nonneg, positive_nonneg, round_upward, round-zero, le→cross, mul_is, mul_upward}
use Rattle.axis_laws.proofs.AtMost.{nle→lt}
use Rattle.axis_laws.proofs.OneStep.{num_pos}

-- the loop: where it starts, goes on and ends
pub div_upward : (x y : Float) → T (positive x) → T (positive y) → T (upward (div binary64 x y))
unfolding div
div_upward (fin false m e) (fin false n d) p q =
    subst (λ (z : Float). T (upward z))
    (sym (cond_no (eqb n 0) (cond (eqb m 0) nan (inf false)) (round binary64 false (m * up e * down d) (n * up d * down e)) (some n (ltb→lt 0 n q))))
    (round_upward binary64 (m * up e * down d) (n * up d * down e))
  where
    some : (n : ℕ) → 0 < n → T (not (eqb n 0))
    some n h = subst (λ (t : Bool). T (not t)) (sym (ne_eqb n 0 (λ (e : n ≡ 0). omega arith))) tt
div_upward nan y p q = absurd p
div_upward (inf s) y p q = absurd p
div_upward (fin true m e) y p q = absurd p
div_upward (fin false m e) nan p q = absurd q
div_upward (fin false m e) (inf s) p q = absurd q
div_upward (fin false m e) (fin true n d) p q = absurd q

pub again : (n w x : Float) → T (positive n) → T (positive w) → T (fits binary64 x) → le n (mul binary64 w x) ≡ true → 1 ≤ to_bits binary64 x
again n w x p q h t =
    elim (eq-zero-or-pos (to_bits binary64 x)) [
      | inl z ↦
          let e : mul binary64 w x ≡ fin false 0 (pos 0) =
          ap (mul binary64 w) (zero_of_pattern x h z)
          ∙ mul_is binary64 w (fin false 0 (pos 0)) (positive_nonneg w q) tt
          ∙ ap (λ (a : ℕ). round binary64 false a (den w * 1)) (mul-zero (num w))
          ∙ round-zero false (den w * 1) (mul-pos (den_pos w) (lit< tt)) in
          let k : num n * 1 ≤ 0 * den n = le→cross n (fin false 0 (pos 0)) (positive_nonneg n p) tt (subst T (sym (sym (ap (le n) e) ∙ t)) tt) in
          let g : 0 < num n = num_pos n p in
          omega arith
      | inr g ↦ g
    ]

mul_inf : (w : Float) → T (positive w) → mul binary64 w (inf false) ≡ inf false
unfolding mul
mul_inf (fin false m e) p = cond_no (eqb m 0) nan (inf false) (subst (λ (t : Bool). T (not t)) (sym (ne_eqb m 0 (λ (z : m ≡ 0). let g = ltb→lt 0 m p in omega arith))) tt)
mul_inf nan p = absurd p
mul_inf (inf s) p = absurd p
mul_inf (fin true m e) p = absurd p

le-inf : (n : Float) → T (positive n) → le n (inf false) ≡ true
unfolding le
le-inf (fin false m e) p = refl
le-inf nan p = absurd p
le-inf (inf s) p = absurd p
le-inf (fin true m e) p = absurd p

pub exit : (n w x : Float) → T (positive n) → T (positive w) → T (upward x) → le n (mul binary64 w x) ≡ false → T (nonneg x) × T (lt (mul binary64 w x) n)
exit n w nan p q u t = absurd u
exit n w (inf true) p q u t = absurd u
exit n w (inf false) p q u t = absurd (true≢false (sym (ap (le n) (mul_inf w q) ∙ le-inf n p) ∙ t))
exit n w (fin s m e) p q u t = (u, nle→lt n (mul binary64 w (fin s m e)) p (mul_upward binary64 w (fin s m e) (positive_nonneg w q) u) t)

-- one step
pub next_fits : (x : Float) → T (fits binary64 (next_down x))
unfolding next_down
next_fits x = of_bits-fits binary64 (to_bits binary64 x - 1)

pub next_pattern : (x : Float) → 1 ≤ to_bits binary64 x → to_bits binary64 x ≤ last → to_bits binary64 (next_down x) ≡ to_bits binary64 x - 1
unfolding next_down
next_pattern x h k = step_pattern x h k

pub descend_stop : (fuel : ℕ) (n w x : Float) → descend fuel false n w x ≡ x
unfolding descend
descend_stop zero n w x = refl
descend_stop (suc fuel) n w x = refl

pub descend_step : (n w x : Float) → 1 ≤ to_bits binary64 x → to_bits binary64 x ≤ last → le n (mul binary64 w x) ≡ true → descend_from n w x ≡ descend_from n w (next_down x)
unfolding descend
descend_step n w x h k e =
    let y = next_down x in
    let z : to_bits binary64 x ≡ suc (to_bits binary64 y) = omega (arith, next_pattern x h k) in
    ap (λ (b : Bool). descend (to_bits binary64 x) b n w x) e ∙ ap (λ (j : ℕ). descend j true n w x) z

module _ (n w : Float) (p : T (positive n)) (q : T (positive w)) where
  pub start_fits : T (fits binary64 (div binary64 n w))
  start_fits = div-fits binary64 n w

  pub start_pattern : to_bits binary64 (div binary64 n w) ≤ last
  start_pattern = pattern_le (div binary64 n w) (div-fits binary64 n w) (div_upward n w p q)

  -- what the loop ends with
  ends : (fuel : ℕ) (b : Bool) (x : Float) → le n (mul binary64 w x) ≡ b → T (fits binary64 x) → to_bits binary64 x ≤ last → to_bits binary64 x ≡ fuel
      → T (nonneg (descend fuel b n w x)) × T (lt (mul binary64 w (descend fuel b n w x)) n) × T (fits binary64 (descend fuel b n w x))
  unfolding descend
  ends zero true x e f h z = let g = again n w x p q f e in absurd (omega arith)
  ends zero false x e f h z = let r = exit n w x p q (upward_of_pattern x h) e in (r.0, r.1, f)
  ends (suc fuel) false x e f h z = let r = exit n w x p q (upward_of_pattern x h) e in (r.0, r.1, f)
  ends (suc fuel) true x e f h z =
      let g = again n w x p q f e in
      let y = next_down x in
      let s = next_pattern x g h in
      ends fuel (le n (mul binary64 w y)) y refl (next_fits x) (omega arith) (omega arith)

  pub descent_ends : T (nonneg (descend_from n w (div binary64 n w))) × T (lt (mul binary64 w (descend_from n w (div binary64 n w))) n) × T (fits binary64 (descend_from n w (div binary64 n w)))
  descent_ends = ends (to_bits binary64 (div binary64 n w)) (le n (mul binary64 w (div binary64 n w))) (div binary64 n w) refl start_fits start_pattern refl
