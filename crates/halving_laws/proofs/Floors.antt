-- lo and hi are the whole parts of 99T / 200 and 101T / 200. Where 99T / 200 is no whole number the limits of LoHi say so, and so they do of hi.
-- Where it is one, N, the product before rounding lies below N by less than an eighth of the distance to the next f64 below, and is rounded to N.
use Prim.Native.Nat.{ℕ, zero, suc, ◌+◌, ◌-◌, ◌*◌, ◌/◌, ◌%◌, ◌^◌, ◌≤◌, ◌<◌}
use native.Mathlib.Omega.{arith}
use mathlib.Core.Logic.{⊎_elim}
use native.Mathlib.Nat.{eq-zero-or-pos, div-lt_iff_lt-mul, le-div_iff_mul-le, lt_of_lt_of_le, le_of_mul-le-mul_right, mul-pos, mul_assoc, mul_right_comm, le_trans, le_of_eq, mul-le-mul_right, mul-lt-mul_of_pos_right}
use mathlib.Core.Path.{◌≡◌, refl, ap, sym, ◌∙◌}
use mathlib.Core.Bool.{false}
use lib.Dec.{T, lit<}
use lib.Pow.{pow_pos, pow-add, pow_mono}
use lib.Ieee.{Float, nan, inf, fin, binary64, round, size}
use lib.Ieee.Digits.{size-lt, size-le}
use lib.Ieee.Exact.{HasValue}
use lib.Ieee.Nearest.{closest, closest_mono}
use lib.Ieee.Scale.{grid, finite, round_val, round_under}
use lib.Ieee.Positive.{num, den, positive, value→cross}
use Rattle.rules.specs.Halving.{lo_of, hi_of}
use Rattle.halving_laws.proofs.LoHi.{lo_float, lo_float_lem, lo_at, part, hi_sharp, lo_sharp}

-- a fraction that is q + 3 / 4 or more is rounded to q + 1 or more
closest_ge : (q a b : ℕ) → 0 < b → (4 * q + 3) * b ≤ a * 4 → suc q ≤ closest a b
closest_ge q a b B h =
    let d : (4 * q + 3) / 4 ≡ q = omega arith in
    let m : (4 * q + 3) % 4 ≡ 3 = omega arith in
    let e : closest (4 * q + 3) 4 ≡ suc q = rw (d, m) in
    rw e at (closest_mono (4 * q + 3) 4 a b (lit< tt) B h)

-- the same of A / X, where (q + 1) X is A and no more than an eighth of 4 X
closest_near_whole : (q X A d : ℕ) → suc q * X ≡ A + d → 4 * d ≤ X → 0 < X → suc q ≤ closest A X
closest_near_whole q X A d e h p = closest_ge q A X p (omega (arith, e))

-- a fraction a / c that lies below N by 8u / c, in units of 1 / L, with M units to a step: J steps make 1
module _ (a c N u J M L : ℕ) (units : L ≡ J * M) (near : N * c ≡ a + 8 * u) (small : 32 * (u * L) ≤ c * M) (some : 0 < c * M) where
  steps : (N * J) * (c * M) ≡ a * L + 8 * (u * L)
  steps =
      let x : (N * J) * (c * M) ≡ (N * c) * (J * M) = omega arith in
      let y : (N * c) * (J * M) ≡ (a + 8 * u) * L = rw (near, units) in
      let z : (a + 8 * u) * L ≡ a * L + 8 * (u * L) = omega arith in
      x ∙ y ∙ z

  rounded_up : 0 < N * J → N * J ≤ closest (a * L) (c * M)
  rounded_up = go (N * J) steps
    where
      go : (n : ℕ) → n * (c * M) ≡ a * L + 8 * (u * L) → 0 < n → n ≤ closest (a * L) (c * M)
      go zero e p = omega arith
      go (suc q) e p = closest_near_whole q (c * M) (a * L) (8 * (u * L)) e (omega (arith, small)) some

is_finite : (z : Float) → T (positive z) → T (finite z)
is_finite nan p = absurd p
is_finite (inf s) p = absurd p
is_finite (fin s m e) p = tt

-- Powers of two stay behind these, over any number of units.

at_least_units : (a c u L : ℕ) → 0 < c → 98 * u * c ≤ a → 98 * (u * L) ≤ a * L / c
at_least_units a c u L C h = let m = mul-le-mul_right L h in (le-div_iff_mul-le C).1 (omega arith)

below_units : (a c p L : ℕ) → 0 < c → a < p * c → 0 < L → a * L / c < p * L
below_units a c p L C h s = let m = mul-lt-mul_of_pos_right h s in (div-lt_iff_lt-mul C).1 (omega arith)

enough : (k z : ℕ) → k ≡ z - 53 → z ≤ 53 + k
enough k z e = omega arith

few : (k z : ℕ) → k ≡ z - 53 → z ≤ 53 + 1074 → k ≤ 1074
few k z e h = omega arith

module _ (u : ℕ) (some : 0 < u) (fits : 200 * u < 2 ^ 45) where
  a : ℕ
  a = 200 * u * 4458563631096791

  c : ℕ
  c = 2 * 2 ^ 52

  k : ℕ
  k = size (a * 2 ^ 1074 / c) - 53

  c_pos : 0 < c
  unfolding c
  c_pos = lit< tt

  k_fits : k ≤ 1074
  unfolding k a c
  k_fits = few k _ refl (size-le _ (53 + 1074) (rw (pow-add 2 53 1074) (below_units a c (2 ^ 53) (2 ^ 1074) c_pos (omega arith) (pow_pos 1074))))

  step_is_large : 32 * (u * 2 ^ 1074) ≤ c * 2 ^ k
  unfolding k a c
  step_is_large =
      let w : ℕ = a * 2 ^ 1074 / c in
      let under : w < 2 ^ (53 + k) = lt_of_lt_of_le (size-lt w) (pow_mono (enough k (size w) refl)) in
      let over : 98 * (u * 2 ^ 1074) ≤ w = at_least_units a c u (2 ^ 1074) c_pos (omega arith) in
      smaller (u * 2 ^ 1074) w (2 ^ 53 * 2 ^ k) over (rw (pow-add 2 53 k) at under)
    where
      smaller : (x w y : ℕ) → 98 * x ≤ w → w < y → 32 * x ≤ y
      smaller x w y h l = omega arith

  units : 2 ^ 1074 ≡ 2 ^ (1074 - k) * 2 ^ k
  units = ap (λ (n : ℕ). 2 ^ n) (rest k_fits) ∙ pow-add 2 (1074 - k) k
    where
      rest : {k : ℕ} → k ≤ 1074 → 1074 ≡ (1074 - k) + k
      rest h = omega arith

  -- the rounded product is 99u or more, in units of 2 ^ -1074
  reached : 99 * u * 2 ^ 1074 ≤ grid binary64 a c
  unfolding k a c
  reached =
      let j : ℕ = 2 ^ (1074 - k) in
      let near : 99 * u * c ≡ a + 8 * u = omega arith in
      let up = rounded_up a c (99 * u) u j (2 ^ k) (2 ^ 1074) units near step_is_large (mul-pos c_pos (pow_pos k)) (mul-pos (omega arith) (pow_pos (1074 - k))) in
      let m : 99 * u * j * 2 ^ k ≤ closest (a * 2 ^ 1074) (c * 2 ^ k) * 2 ^ k = mul-le-mul_right (2 ^ k) up in
      let e : 99 * u * 2 ^ 1074 ≡ 99 * u * j * 2 ^ k = ap (λ (n : ℕ). 99 * u * n) units ∙ sym (mul_assoc (99 * u) j (2 ^ k)) in
      le_trans (le_of_eq e) m

  -- so lo of 200u is 99u
  pub lo_of_whole : 99 * u ≤ lo_of (200 * u)
  unfolding lo_of a c
  lo_of_whole =
      let z : Float = lo_float (200 * u) in
      let s = lo_at (200 * u) (omega arith) fits in
      let e : z ≡ round binary64 false a c = lo_float_lem (200 * u) (omega arith) fits in
      let v : HasValue (round binary64 false a c) false (grid binary64 a c) (2 ^ 1074) = round_val binary64 a c (round_under binary64 a c (rw e at (is_finite z s.above))) in
      let x : num z * 2 ^ 1074 ≡ grid binary64 a c * den z = value→cross z (grid binary64 a c) (2 ^ 1074) (rw e v) in
      let y : 99 * u * den z * 2 ^ 1074 ≤ num z * 2 ^ 1074 = le_trans (le_of_eq (mul_right_comm (99 * u) (den z) (2 ^ 1074))) (le_trans (mul-le-mul_right (den z) reached) (le_of_eq (sym x))) in
      let low : 99 * u * den z ≤ num z = le_of_mul-le-mul_right y (pow_pos 1074) in
      (part z (99 * u) _ (99 * (200 * u) / 200 + 1) (record { above = s.above; low = low; high = s.high }) (omega arith) (omega arith)).0

-- 99t is a multiple of 200 where t is one, and nowhere else: 99 * 99 is 49 * 200 + 1
multiple : (t : ℕ) → 99 * t % 200 ≡ 0 → t ≡ 200 * (99 * (99 * t / 200) - 49 * t)
multiple t e = let q : 99 * t ≡ 200 * (99 * t / 200) = omega (arith, e) in omega (arith, q)

pub lo_is_floor : (t : ℕ) → t < 2 ^ 45 → lo_of t ≡ 99 * t / 200
unfolding lo_of
lo_is_floor zero h = refl
lo_is_floor (suc t) h = ⊎_elim whole part_of_one (eq-zero-or-pos (99 * suc t % 200))
  where
    whole : 99 * suc t % 200 ≡ 0 → lo_of (suc t) ≡ 99 * suc t / 200
    whole e = go (99 * (99 * suc t / 200) - 49 * suc t) (multiple (suc t) e)
      where
        go : (u : ℕ) → suc t ≡ 200 * u → lo_of (suc t) ≡ 99 * suc t / 200
        go u w =
            let g : 99 * u ≤ lo_of (suc t) = rw (← w) at (lo_of_whole u (omega (arith, w)) (omega (arith, w))) in
            omega (arith, g, w, lo_sharp (suc t) (omega arith) h)

    part_of_one : 0 < 99 * suc t % 200 → lo_of (suc t) ≡ 99 * suc t / 200
    part_of_one p = omega (arith, p, lo_sharp (suc t) (omega arith) h)

pub hi_is_floor : (t : ℕ) → t < 2 ^ 45 → hi_of t ≡ 101 * t / 200
unfolding hi_of
hi_is_floor zero h = refl
hi_is_floor (suc t) h = hi_sharp (suc t) (omega arith) h
