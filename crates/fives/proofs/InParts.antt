-- A number in parts: times a factor, its size, and what is left below its highest part. Assumes nothing.
use Rattle.std.proofs.Common.{◌≡◌, ℕ, ◌+◌, ◌-◌, ◌*◌, ◌/◌, ◌%◌, ◌^◌, ◌<◌, ◌≤◌, sym, ap, ◌∙◌, le_trans, le_of_eq, lt_of_lt_of_le, le-add_right, add-zero, add_assoc, mul-le-mul_right, zero-lt-suc, mul_assoc, mul_comm, add-mul, mul-le-mul, one-mul, lt_of_not-le, div-add-mod', zero-mul, mul-add, div-le_self, not-le_of_lt, le-mul_of_pos_right, arith, pow_mono, pow-add}
use native.Mathlib.Nat.{one-le-pow, pow-le-pow_right}
use lib.Arith.{digits_lt}

one_place : (x r b : ℕ) → (x + r / b) * b + r % b ≡ x * b + r
one_place x r b = ap (λ (z : ℕ). z + r % b) (add-mul x (r / b) b) ∙ add_assoc (x * b) (r / b * b) (r % b) ∙ ap (λ (z : ℕ). x * b + z) (div-add-mod' r b)

pub times_number : (c f s h m l : ℕ) → ((c * h + (c * m + c * l / f) / s) * s + (c * m + c * l / f) % s) * f + c * l % f ≡ c * ((h * s + m) * f + l)
times_number c f s h m l =
    ap (λ (z : ℕ). z * f + c * l % f) (one_place (c * h) (c * m + c * l / f) s ∙ sym (add_assoc (c * h * s) (c * m) (c * l / f)))
    ∙ one_place (c * h * s + c * m) (c * l) f
    ∙ ap (λ (z : ℕ). (z + c * m) * f + c * l) (mul_assoc c h s)
    ∙ ap (λ (z : ℕ). z * f + c * l) (sym (mul-add c (h * s) m))
    ∙ ap (λ (z : ℕ). z + c * l) (mul_assoc c (h * s + m) f)
    ∙ sym (mul-add c ((h * s + m) * f) l)

-- a part below its base, times a factor
pub part_times : (c l b : ℕ) → c ≤ 512 → l < b → b ≤ 2 ^ 52 → c * l ≤ 512 * 2 ^ 52
part_times c l b h k j = let below : l ≤ 2 ^ 52 = omega arith in mul-le-mul h below

pub middle_times : (c m l f s : ℕ) → c ≤ 512 → l < f → m < s → f ≤ 2 ^ 52 → s ≤ 2 ^ 52 → c * m + c * l / f ≤ 2 ^ 62
middle_times c m l f s C L M F S =
    let a = part_times c l f C L F in
    let b = part_times c m s C M S in
    let d = div-le_self (c * l) f in
    omega arith

pub high_times : (c h x s : ℕ) → c ≤ 512 → h < 2 ^ 54 → x ≤ 2 ^ 62 → c * h + x / s < 2 ^ 64
high_times c h x s C H X =
    let below : h ≤ 2 ^ 54 = omega arith in
    let a : c * h ≤ 512 * 2 ^ 54 = mul-le-mul C below in
    let d = div-le_self x s in
    omega arith

-- a number with a small highest part is below 2 ^ 158, and what is 2 ^ n times a number no less than 1 says how large n may be
pub parts_below : (f s h m l : ℕ) → l < f → m < s → h < 2 ^ 54 → f ≤ 2 ^ 52 → s ≤ 2 ^ 52 → (h * s + m) * f + l < 2 ^ 158
parts_below f s h m l L M H F S = lt_of_lt_of_le (digits_lt (digits_lt H M) L) (mul-le-mul (mul-le-mul (le_of_eq (one-mul (2 ^ 54))) S) F)

pub shift_below : (a n x : ℕ) → 0 < a → x ≡ a * 2 ^ n → x < 2 ^ 158 → n < 158
shift_below a n x A e h = lt_of_not-le (λ (g : 158 ≤ n). not-le_of_lt h (le_trans (pow_mono g) (le_trans (le_of_eq (sym (one-mul (2 ^ n)))) (le_trans (mul-le-mul_right (2 ^ n) A) (le_of_eq (sym e))))))

pub nine_more : (a n x y : ℕ) → x ≡ a * 2 ^ n → y ≡ 512 * x → y ≡ a * 2 ^ (n + 9)
nine_more a n x y e h = h ∙ ap (λ (z : ℕ). 512 * z) e ∙ mul_comm 512 (a * 2 ^ n) ∙ mul_assoc a (2 ^ n) 512 ∙ ap (λ (z : ℕ). a * z) (sym (pow-add 2 n 9))

-- what is left below the highest part
pub left : (h s f m l : ℕ) → (h * s + m) * f + l ≡ h * (s * f) + (m * f + l)
left h s f m l = ap (λ (z : ℕ). z + l) (add-mul (h * s) m f ∙ ap (λ (z : ℕ). z + m * f) (mul_assoc h s f)) ∙ add_assoc (h * (s * f)) (m * f) l

pub left_some : (m f l : ℕ) → l < f → 0 < m + l → 0 < m * f + l
left_some m f l L h = let k : m ≤ m * f = le-mul_of_pos_right m (omega arith) in omega arith

pub left_none : (m f l : ℕ) → m + l ≡ 0 → m * f + l ≡ 0
left_none m f l h = let z : m ≡ 0 = omega arith in let y : l ≡ 0 = omega arith in rw (z, y) (add-zero (0 * f) ∙ zero-mul f)

pub reached : (q b r x : ℕ) → 1 ≤ q → x ≡ q * b + r → b ≤ x
reached q b r x h e = le_trans (le_of_eq (sym (one-mul b))) (le_trans (mul-le-mul_right b h) (le_trans (le-add_right (q * b) r) (le_of_eq (sym e))))

-- a number taken apart
pub whole_again : (n f s : ℕ) → (n / f / s * s + n / f % s) * f + n % f ≡ n
whole_again n f s = ap (λ (z : ℕ). z * f + n % f) (div-add-mod' (n / f) s) ∙ div-add-mod' n f

-- 5 ^ k in two factors
pub two_factors : (k f s : ℕ) → f ≡ 5 ^ (k / 2) → s ≡ 5 ^ (k - k / 2) → s * f ≡ 5 ^ k
two_factors k f s h j = rw (h, j) (sym (pow-add 5 (k - k / 2) (k / 2)) ∙ ap (λ (z : ℕ). 5 ^ z) (halves k))
  where
    halves : (k : ℕ) → k - k / 2 + k / 2 ≡ k
    halves k = omega arith

-- a power of five
pub fives_below : (k : ℕ) → k ≤ 22 → 5 ^ k ≤ 2 ^ 52
fives_below k h = let few : 5 ^ k ≤ 5 ^ 22 = pow-le-pow_right (zero-lt-suc 4) h in omega arith

pub fives_pos : (k : ℕ) → 0 < 5 ^ k
fives_pos k = one-le-pow k 5 (zero-lt-suc 4)
