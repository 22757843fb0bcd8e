-- What `scaled` says of a finite f64 x: x is ±n / 2^1074 as the kit has it, and scaled x is ±n. So the order of f64s is that of these whole
-- numbers, and the exact difference of two f64s is the difference of theirs. Assumes nothing.
use mathlib.Core.Path.{◌≡◌, refl, sym, ap, ◌∙◌, subst}
use Prim.Native.Nat.{ℕ, zero, suc, ◌+◌, ◌-◌, ◌*◌, ◌%◌, ◌^◌, ◌≤◌, ◌<◌}
use native.Mathlib.Nat.{lt_irrefl, lt_of_lt_of_le, mul_comm, mul_assoc, mul_right_comm, mul-le-mul_right, le_of_mul-le-mul_right, mul-pos, mul-one, zero-mul, add-mul}
use native.Mathlib.Omega.{arith}
use mathlib.Core.Bool.{Bool, true, false, not, ◌&&◌, cond}
use lib.IntN.{ℤ, pos, negsuc, neg_ℤ, ◌+ℤ◌, ◌-ℤ◌, +ℤ_comm, neg_ℤ-neg_ℤ}
use lib.Dec.{T, ltb, eqb, leb, leb→le, ltb→lt, nltb→le}
use lib.Pow.{pow-add, pow-lt}
use borrow.Author.Tests.{le-ltb}
use lib.Ieee.{Float, nan, inf, fin, binary64, fits, down, le, to_bits}
use lib.Ieee.Bits.{of_bits-fits, of_bits-to_bits}
use lib.Ieee.Exact.{HasValue}
use lib.Ieee.Scale.{finite}
use lib.Ieee.Positive.{num, den, den_pos}
use Rattle.requests.specs.Scaled.{IsF64, power_scaled, scaled}
use Rattle.axis_laws.proofs.SubMono.{minus, plus, less, gap, le→signed, spread}

-- THE F64S are the floats that the kit's format of 64 bits holds

pub f64_fits : (x : Float) → IsF64 x → T (fits binary64 x)
f64_fits x f64 = subst (λ (y : Float). T (fits binary64 y)) f64.1 (of_bits-fits binary64 f64.0)

pub fits_f64 : (x : Float) → T (fits binary64 x) → IsF64 x
fits_f64 x f = (to_bits binary64 x, of_bits-to_bits binary64 x f)

-- THE VALUE

-- its size, 0 of a NaN or an infinity
abbrev pub size_scaled : Float → ℕ
size_scaled nan = 0
size_scaled (inf s) = 0
size_scaled (fin s m e) = m * power_scaled e

exponent_low : (k : ℕ) → 2 ^ suc k ≤ 2 ^ 1074 → suc k ≤ 1074
exponent_low k h = go (ltb 1074 (suc k)) (ltb→lt 1074 (suc k)) (nltb→le 1074 (suc k))
  where
    go : (b : Bool) → (T b → 1074 < suc k) → (T (not b) → suc k ≤ 1074) → suc k ≤ 1074
    go false a b = b tt
    go true a b = absurd (lt_irrefl (2 ^ 1074) (lt_of_lt_of_le (pow-lt (a tt)) h))

third : (a b c d : Bool) → T (a && b && c && d) → T c
third true true true d t = tt
third true true false d t = absurd t
third true false c d t = absurd t
third false b c d t = absurd t

pub size_value : (x : Float) → T (finite x) → T (fits binary64 x) → num x * 2 ^ 1074 ≡ size_scaled x * den x
unfolding fits
size_value nan p f = absurd p
size_value (inf s) p f = absurd p
size_value (fin s m (pos k)) p f = mul_assoc m (2 ^ k) (2 ^ 1074) ∙ ap (λ (z : ℕ). m * z) (mul_comm (2 ^ k) (2 ^ 1074) ∙ sym (pow-add 2 1074 k)) ∙ sym (mul-one (m * 2 ^ (1074 + k)))
size_value (fin s zero (negsuc k)) p f = ap (λ (z : ℕ). z * 2 ^ 1074) (zero-mul 1) ∙ zero-mul (2 ^ 1074) ∙ sym (ap (λ (z : ℕ). z * 2 ^ suc k) (zero-mul (2 ^ (1073 - k))) ∙ zero-mul (2 ^ suc k))
size_value (fin s (suc m) (negsuc k)) p f =
    let low : suc k ≤ 1074 = exponent_low k (leb→le (2 ^ suc k) (2 ^ 1074) (third (eqb (suc m % 2) 1) (ltb (suc m) (2 ^ 53)) (leb (2 ^ suc k) (2 ^ 1074)) (ltb (suc m * 1) (2 ^ 1024 * 2 ^ suc k)) f)) in
    let e : 1073 - k + suc k ≡ 1074 = omega arith in
    ap (λ (z : ℕ). z * 2 ^ 1074) (mul-one (suc m)) ∙ ap (λ (z : ℕ). suc m * z) (ap (λ (z : ℕ). 2 ^ z) (sym e) ∙ pow-add 2 (1073 - k) (suc k)) ∙ sym (mul_assoc (suc m) (2 ^ (1073 - k)) (2 ^ suc k))

pub scaled_value : (x : Float) → T (finite x) → T (fits binary64 x) → (n : ℕ) × HasValue x (minus x) n (2 ^ 1074) × (scaled x ≡ cond (minus x) (neg_ℤ (pos n)) (pos n))
unfolding scaled
scaled_value nan p f = absurd p
scaled_value (inf s) p f = absurd p
scaled_value (fin s m e) p f = (m * power_scaled e, (refl, size_value (fin s m e) p f), refl)

-- THE ORDER AND DIFFERENCES

-- what is above zero and what below
abbrev plus_scaled : Float → ℕ
plus_scaled x = cond (minus x) 0 (size_scaled x)

abbrev less_scaled : Float → ℕ
less_scaled x = cond (minus x) (size_scaled x) 0

plus_value : (x : Float) → T (finite x) → T (fits binary64 x) → plus x * 2 ^ 1074 ≡ plus_scaled x * den x
plus_value nan p f = absurd p
plus_value (inf s) p f = absurd p
plus_value (fin true m e) p f = zero-mul (2 ^ 1074) ∙ sym (zero-mul (down e))
plus_value (fin false m e) p f = size_value (fin false m e) p f

less_value : (x : Float) → T (finite x) → T (fits binary64 x) → less x * 2 ^ 1074 ≡ less_scaled x * den x
less_value nan p f = absurd p
less_value (inf s) p f = absurd p
less_value (fin true m e) p f = size_value (fin true m e) p f
less_value (fin false m e) p f = zero-mul (2 ^ 1074) ∙ sym (zero-mul (down e))

-- a / c is A / s, so it is A * d of c * d in s
widened : (a A c d s : ℕ) → a * s ≡ A * c → a * d * s ≡ A * (c * d)
widened a A c d s e = mul_right_comm a d s ∙ ap (λ (z : ℕ). z * d) e ∙ mul_assoc A c d

-- x ≤ y
pub scaled_le : (x y : Float) → T (finite x) → T (finite y) → T (fits binary64 x) → T (fits binary64 y) → T (le x y) → plus_scaled x + less_scaled y ≤ plus_scaled y + less_scaled x
scaled_le x y p q f g h =
    go (plus x) (less x) (den x) (plus y) (less y) (den y) (2 ^ 1074) (plus_scaled x) (less_scaled x) (plus_scaled y) (less_scaled y) (den_pos x) (den_pos y)
    (plus_value x p f) (less_value x p f) (plus_value y q g) (less_value y q g) (le→signed x y p q h)
  where
    go : (a b c a' b' c' s A B A' B' : ℕ) → 0 < c → 0 < c' → a * s ≡ A * c → b * s ≡ B * c → a' * s ≡ A' * c' → b' * s ≡ B' * c' → a * c' + b' * c ≤ a' * c + b * c' → A + B' ≤ A' + B
    go a b c a' b' c' s A B A' B' p q e f g h k =
        let l : (a * c' + b' * c) * s ≤ (a' * c + b * c') * s = mul-le-mul_right s k in
        le_of_mul-le-mul_right {k = c * c'}
        (omega (
          arith,
          add-mul (a * c') (b' * c) s,
          add-mul (a' * c) (b * c') s,
          add-mul A B' (c * c'),
          add-mul A' B (c * c'),
          widened a A c c' s e,
          widened b B c c' s f,
          widened a' A' c' c s g ∙ ap (λ (z : ℕ). A' * z) (mul_comm c' c),
          widened b' B' c' c s h ∙ ap (λ (z : ℕ). B' * z) (mul_comm c' c),
        ))
        (mul-pos p q)

-- x - y, where y ≤ x
abbrev pub gap_scaled : Float → Float → ℕ
gap_scaled x y = plus_scaled x + less_scaled y - (less_scaled x + plus_scaled y)

pub gap_value : (x y : Float) → T (finite x) → T (finite y) → T (fits binary64 x) → T (fits binary64 y) → gap x y * 2 ^ 1074 ≡ gap_scaled x y * (den x * den y)
gap_value x y p q f g =
    let c = den x in
    let d = den y in
    spread (plus x * d) (less y * c) (less x * d) (plus y * c) (2 ^ 1074)
    ∙ same (plus x * d * 2 ^ 1074) (less y * c * 2 ^ 1074) (less x * d * 2 ^ 1074) (plus y * c * 2 ^ 1074) (plus_scaled x * (c * d)) (less_scaled y * (c * d)) (less_scaled x * (c * d)) (plus_scaled y * (c * d))
    (widened (plus x) (plus_scaled x) c d (2 ^ 1074) (plus_value x p f))
    (widened (less y) (less_scaled y) d c (2 ^ 1074) (less_value y q g) ∙ ap (λ (z : ℕ). less_scaled y * z) (mul_comm d c))
    (widened (less x) (less_scaled x) c d (2 ^ 1074) (less_value x p f))
    (widened (plus y) (plus_scaled y) d c (2 ^ 1074) (plus_value y q g) ∙ ap (λ (z : ℕ). plus_scaled y * z) (mul_comm d c))
    ∙ sym (spread (plus_scaled x) (less_scaled y) (less_scaled x) (plus_scaled y) (c * d))
  where
    same : (a b x y a' b' x' y' : ℕ) → a ≡ a' → b ≡ b' → x ≡ x' → y ≡ y' → a + b - (x + y) ≡ a' + b' - (x' + y')
    same a b x y a' b' x' y' e f g h = cc

pub gap_grows : (x y z : Float) → T (finite x) → T (finite y) → T (fits binary64 x) → T (fits binary64 y) → T (le x y) → gap_scaled x z ≤ gap_scaled y z
gap_grows x y z p q f g h = go (plus_scaled x) (less_scaled x) (plus_scaled y) (less_scaled y) (plus_scaled z) (less_scaled z) (scaled_le x y p q f g h)
  where
    go : (a b a' b' c d : ℕ) → a + b' ≤ a' + b → a + d - (b + c) ≤ a' + d - (b' + c)
    go a b a' b' c d h = omega arith

-- the difference of the whole numbers is that one
minus_nat : (a b : ℕ) → b ≤ a → pos a -ℤ pos b ≡ pos (a - b)
minus_nat a zero h = ap pos (omega arith)
minus_nat a (suc b) h = rw (le-ltb a (suc b) h)

signed_minus : (s t : Bool) (a b : ℕ) → cond t 0 b + cond s a 0 ≤ cond s 0 a + cond t b 0
    → cond s (neg_ℤ (pos a)) (pos a) -ℤ cond t (neg_ℤ (pos b)) (pos b) ≡ pos (cond s 0 a + cond t b 0 - (cond s a 0 + cond t 0 b))
signed_minus false false a b h = minus_nat a b (omega arith) ∙ ap pos (omega arith)
signed_minus false true a b h = ap (λ (z : ℤ). pos a +ℤ z) (neg_ℤ-neg_ℤ (pos b)) ∙ ap pos (omega arith)
signed_minus true false a b h =
    let p : a ≡ 0 = omega arith in
    let q : b ≡ 0 = omega arith in
    rw (p, q)
signed_minus true true a b h = ap (λ (z : ℤ). neg_ℤ (pos a) +ℤ z) (neg_ℤ-neg_ℤ (pos b)) ∙ +ℤ_comm (neg_ℤ (pos a)) (pos b) ∙ minus_nat b a (omega arith) ∙ ap pos (omega arith)

pub scaled_gap : (x y : Float) → T (finite x) → T (finite y) → T (fits binary64 x) → T (fits binary64 y) → T (le y x) → scaled x -ℤ scaled y ≡ pos (gap_scaled x y)
unfolding scaled
scaled_gap nan y p q f g h = absurd p
scaled_gap (inf s) y p q f g h = absurd p
scaled_gap (fin s m e) nan p q f g h = absurd q
scaled_gap (fin s m e) (inf t) p q f g h = absurd q
scaled_gap (fin s m e) (fin t n d) p q f g h = signed_minus s t (m * power_scaled e) (n * power_scaled d) (scaled_le (fin t n d) (fin s m e) q p g f h)
