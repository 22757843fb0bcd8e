-- Quotients and products of floats whose values are known, rounded once; and the floats that are powers of two. Assumes nothing.
use Prim.Native.Nat.{ℕ, zero, suc, ◌+◌, ◌-◌, ◌*◌, ◌/◌, ◌^◌, ◌≤◌, ◌<◌}
use mathlib.Core.Path.{◌≡◌, refl, sym, ap, ◌∙◌, subst}
use mathlib.Core.Bool.{Bool, true, false, cond, true≢false}
use native.Mathlib.Nat.{zero-add, add-mul, mul-one, one-mul, mul-pos, mul_comm, mul_assoc, mul-mul-mul_comm, mul-div_cancel, le_of_eq, lt_of_le_of_lt}
use native.Mathlib.Omega.{arith}
use lib.Dec.{eqb, ltb}
use lib.Pow.{pow-add, pow_pos, pow-lt}
use lib.Ieee.{Float, nan, inf, fin, Format, prec, emax, low, hid, unlike, up, down, odd, units, round, mul, div, neg, of_bits}
use lib.Ieee.Bits.{of_bits-to_bits}
use lib.Ieee.Exact.{HasValue, round_exact}
use lib.Ieee.Fits.{two, down_pos, round_is, round-fits}
use lib.Ieee.Order.{drop, kept}
use lib.Ieee.Positive.{first_pos}
use lib.Ieee.Scale.{overflow, round_same}
use borrow.Author.Tests.{ne_eqb}
use Rattle.ratio_laws.proofs.OneValue.{pattern, bits_of}
use Rattle.ratio_laws.proofs.Again.{one_below}
use Rattle.ratio_laws.proofs.LeadingDigits.{size_is}

-- ---- the sign
neg-odd : (d q k l : ℕ) → neg (odd d false q k l) ≡ odd d true q k l
unfolding neg odd
neg-odd d zero k l = refl
neg-odd d (suc q) k l = refl

neg-units : (f : Format) (q k : ℕ) → neg (units f false q k) ≡ units f true q k
unfolding neg units
neg-units f q k = go (ltb (q * 2 ^ k) (overflow f))
  where
    go : (t : Bool) → neg (cond t (odd (suc (prec f)) false q k (low f)) (inf false)) ≡ cond t (odd (suc (prec f)) true q k (low f)) (inf true)
    go true = neg-odd (suc (prec f)) q k (low f)
    go false = refl

-- a rounded fraction's negation
pub neg-round : (f : Format) (a c : ℕ) → neg (round f false a c) ≡ round f true a c
neg-round f a c = ap neg (round_is f false a c) ∙ neg-units f (kept (prec f) (a * 2 ^ low f) c) (drop (prec f) (a * 2 ^ low f) c) ∙ sym (round_is f true a c)

unlike_false : (t : Bool) → unlike t false ≡ t
unlike_false true = refl
unlike_false false = refl

-- ---- the quotient of a fraction a / c and a whole number b, rounded once
-- with x / p the fraction a / c, and y / q the whole number b
cross : (x y a b c p q : ℕ) → x * c ≡ a * p → y ≡ b * q → x * q * (c * b) ≡ a * (y * p)
cross x y a b c p q h k =
    mul-mul-mul_comm x q c b
    ∙ ap (λ (z : ℕ). z * (q * b)) h
    ∙ mul_assoc a p (q * b)
    ∙ ap (λ (z : ℕ). a * z) (mul_comm p (q * b) ∙ ap (λ (z : ℕ). z * p) (mul_comm q b ∙ sym k))

pub quotient : (f : Format) (s : Bool) (x y : Float) (a c b : ℕ) → 0 < c → 0 < b → HasValue x s a c → HasValue y false b 1 → div f x y ≡ round f s a (c * b)
unfolding div
quotient f s nan y a c b C B h k = absurd h
quotient f s (inf t) y a c b C B h k = absurd h
quotient f s (fin t m e) nan a c b C B h k = absurd k
quotient f s (fin t m e) (inf u) a c b C B h k = absurd k
quotient f s (fin t m e) (fin true n d) a c b C B h k = absurd (true≢false k.0)
quotient f s (fin t m e) (fin false n d) a c b C B h k =
    let low : n * up d ≡ b * down d = sym (mul-one (n * up d)) ∙ k.1 in
    let positive : 0 < n * up d = subst (λ (z : ℕ). 0 < z) (sym low) (mul-pos B (down_pos d)) in
    let some : 0 < n = first_pos n (up d) positive in
    ap (λ (z : Bool). cond z (cond (eqb m 0) nan (inf (unlike t false))) (round f (unlike t false) (m * up e * down d) (n * up d * down e))) (ne_eqb n 0 (λ z. omega arith))
    ∙ round_same f (unlike t false) (m * up e * down d) (n * up d * down e) a (c * b) (mul-pos positive (down_pos e)) (mul-pos C B)
    (cross (m * up e) (n * up d) a b c (down e) (down d) h.1 low)
    ∙ ap (λ (z : Bool). round f z a (c * b)) (unlike_false t ∙ h.0)

-- ---- the product of two fractions a / c and b / d, rounded once
pub product : (f : Format) (s : Bool) (x y : Float) (a c b d : ℕ) → 0 < c → 0 < d → HasValue x s a c → HasValue y false b d → mul f x y ≡ round f s (a * b) (c * d)
unfolding mul
product f s nan y a c b d C D h k = absurd h
product f s (inf t) y a c b d C D h k = absurd h
product f s (fin t m e) nan a c b d C D h k = absurd k
product f s (fin t m e) (inf u) a c b d C D h k = absurd k
product f s (fin t m e) (fin true n g) a c b d C D h k = absurd (true≢false k.0)
product f s (fin t m e) (fin false n g) a c b d C D h k =
    round_same f (unlike t false) (m * up e * (n * up g)) (down e * down g) (a * b) (c * d) (mul-pos (down_pos e) (down_pos g)) (mul-pos C D)
    (mul-mul-mul_comm (m * up e) (n * up g) c d ∙ ap (λ (z : ℕ). z * (n * up g * d)) h.1 ∙ ap (λ (z : ℕ). a * down e * z) k.1 ∙ mul-mul-mul_comm a (down e) b (down g))
    ∙ ap (λ (z : Bool). round f z (a * b) (c * d)) (unlike_false t ∙ h.0)

-- ---- a power of two, by its bits
kept_bits : (n p : ℕ) → 2 ≤ p → p ≤ n → n ≡ p - 1 + (suc n - p)
kept_bits n p t h = omega arith

next_power : (n : ℕ) → 2 ^ n < 2 ^ suc n
next_power n = pow-lt (omega arith)

at_power : (f : Format) (n : ℕ) → prec f ≤ n → pattern f false (2 ^ n) ≡ (suc n - prec f + 1) * hid f
at_power f n h =
    ap (λ (z : ℕ). 0 + (z - prec f) * hid f + 2 ^ n / 2 ^ (z - prec f)) (size_is (2 ^ n) n (le_of_eq refl) (next_power n))
    ∙ ap (λ (z : ℕ). z + 2 ^ n / 2 ^ k) (zero-add (k * hid f))
    ∙ ap (λ (z : ℕ). k * hid f + z / 2 ^ k) (ap (λ (z : ℕ). 2 ^ z) (kept_bits n (prec f) (two f) h) ∙ pow-add 2 (prec f - 1) k)
    ∙ ap (λ (z : ℕ). k * hid f + z) (mul-div_cancel (hid f) (pow_pos k))
    ∙ sym (add-mul k 1 (hid f) ∙ ap (λ (z : ℕ). k * hid f + z) (one-mul (hid f)))
  where
    k : ℕ
    k = suc n - prec f

-- 2 ^ u / 2 ^ d is a float exactly, whose bits are its exponent
pub power_bits : (f : Format) (u d n : ℕ) → u + low f ≡ n + d → prec f ≤ n → u ≤ emax f → HasValue (of_bits f ((suc n - prec f + 1) * hid f)) false (2 ^ u) (2 ^ d)
power_bits f u d n e h l =
    subst (λ (x : Float). HasValue x false (2 ^ u) (2 ^ d)) (sym (of_bits-to_bits f x (round-fits f false (2 ^ u) (2 ^ d))) ∙ ap (λ (z : ℕ). of_bits f z) (bits_of f false (2 ^ u) (2 ^ d) x (pow_pos d) value ∙ bits)) value
  where
    x : Float
    x = round f false (2 ^ u) (2 ^ d)

    units : 2 ^ u * 2 ^ low f ≡ 2 ^ n * 2 ^ d
    units = sym (pow-add 2 u (low f)) ∙ ap (λ (z : ℕ). 2 ^ z) e ∙ pow-add 2 n d

    below : (u l n d m : ℕ) → u + l ≡ n + d → u ≤ m → n < l + suc m
    below u l n d m p q = omega arith

    value : HasValue x false (2 ^ u) (2 ^ d)
    value =
        round_exact f false (2 ^ u) (2 ^ d) 1 n (pow_pos d) (one_below f)
        (lt_of_le_of_lt (le_of_eq (one-mul (2 ^ n))) (pow-lt (below u (low f) n d (emax f) e l)))
        (units ∙ ap (λ (z : ℕ). z * 2 ^ d) (sym (one-mul (2 ^ n))))

    bits : pattern f false (2 ^ u * 2 ^ low f / 2 ^ d) ≡ (suc n - prec f + 1) * hid f
    bits = ap (λ (z : ℕ). pattern f false z) (ap (λ (z : ℕ). z / 2 ^ d) units ∙ mul-div_cancel (2 ^ n) (pow_pos d)) ∙ at_power f n h
