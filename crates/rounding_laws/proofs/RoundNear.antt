-- How far one rounding to f64 moves a fraction a / c: by half a step, and a step is at most one part in 2^52 of the fraction, or the least f64
-- above zero. All in units of that one, 2^-1074. Assumes nothing.
use mathlib.Core.Path.{◌≡◌, sym, ap, ◌∙◌, subst}
use mathlib.Core.Logic.{◌⊎◌, inl, inr}
use Prim.Native.Nat.{ℕ, ◌+◌, ◌-◌, ◌*◌, ◌/◌, ◌^◌, ◌≤◌, ◌<◌}
use native.Mathlib.Nat.{le_trans, le_of_eq, mul_comm, mul_assoc, mul-pos, mul-one, le-div_iff_mul-le, eq-zero-or-pos}
use native.Mathlib.Omega.{arith}
use mathlib.Core.Bool.{false}
use lib.Dec.{T}
use lib.Pow.{pow-add, pow_pos}
use lib.Ieee.{Float, binary64, round, size}
use lib.Ieee.Digits.{size_reaches}
use lib.Ieee.Exact.{HasValue}
use lib.Ieee.Scale.{round_val, round_under, grid, finite}
use lib.Ieee.Order.{drop, kept}
use Rattle.axis_laws.proofs.MulMono.{nonneg, nonneg_finite}
use Rattle.axis_laws.proofs.ClosestNear.{closest_near}
use Rattle.axis_laws.proofs.OneStep.{H}

-- g is n / c rounded: by half a step of u / c at most, and u is c, which is one unit, or one part in 2^52 of n at most
pub record Near (g n c : ℕ) : Type 0 where
  pub u : ℕ
  pub up : 2 * (g * c) ≤ 2 * n + u
  pub down : 2 * n ≤ 2 * (g * c) + u
  pub step : (u ≡ c) ⊎ (H * u ≤ n)

module _ (a c : ℕ) (c0 : 0 < c) where
  abbrev k : ℕ
  k = drop 53 (a * 2 ^ 1074) c

  abbrev Q : ℕ
  Q = kept 53 (a * 2 ^ 1074) c

  turn : (a k c : ℕ) → 2 ^ (a + k) * c ≡ 2 ^ a * (c * 2 ^ k)
  turn a k c = ap (λ (y : ℕ). y * c) (pow-add 2 a k) ∙ mul_assoc (2 ^ a) (2 ^ k) c ∙ ap (λ (y : ℕ). 2 ^ a * y) (mul_comm (2 ^ k) c)

  step_size : (c * 2 ^ k ≡ c) ⊎ (H * (c * 2 ^ k) ≤ a * 2 ^ 1074)
  step_size = go (eq-zero-or-pos k)
    where
      digits : (s : ℕ) → 0 < s - 53 → 52 + (s - 53) < s
      digits s h = omega arith

      go : (k ≡ 0) ⊎ (0 < k) → (c * 2 ^ k ≡ c) ⊎ (H * (c * 2 ^ k) ≤ a * 2 ^ 1074)
      go (inl e) = inl (ap (λ (y : ℕ). c * 2 ^ y) e ∙ mul-one c)
      go (inr h) = inr (le_trans (le_of_eq (sym (turn 52 k c))) ((le-div_iff_mul-le c0).0 (size_reaches (a * 2 ^ 1074 / c) (52 + k) (digits (size (a * 2 ^ 1074 / c)) h))))

  pub grid_near : Near (grid binary64 a c) (a * 2 ^ 1074) c
  grid_near =
      let n = closest_near (a * 2 ^ 1074) (c * 2 ^ k) (mul-pos c0 (pow_pos k)) in
      let e : Q * (c * 2 ^ k) ≡ Q * 2 ^ k * c = ap (λ (y : ℕ). Q * y) (mul_comm c (2 ^ k)) ∙ sym (mul_assoc Q (2 ^ k) c) in
      record { u = c * 2 ^ k; up = rw e at n.0; down = rw e at n.1; step = step_size }

-- a finite value that a / c rounds to
pub rounded_value : (y : Float) (a c : ℕ) → T (nonneg y) → y ≡ round binary64 false a c → HasValue y false (grid binary64 a c) (2 ^ 1074)
rounded_value y a c p e =
    let t : T (finite (round binary64 false a c)) = subst (λ (z : Float). T (finite z)) e (nonneg_finite y p) in
    subst (λ (z : Float). HasValue z false (grid binary64 a c) (2 ^ 1074)) (sym e) (round_val binary64 a c (round_under binary64 a c t))
