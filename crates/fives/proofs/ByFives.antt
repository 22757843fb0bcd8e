-- Digits over and times a power of ten, by way of a whole number that stands for them over and times the power of five. Assumes nothing.
use Rattle.std.proofs.Common.{◌≡◌, ℕ, zero, suc, ◌+◌, ◌*◌, ◌^◌, ◌<◌, ◌≤◌, Bool, sym, refl, ap, ◌∙◌, subst, le_trans, le_of_eq, lt_of_lt_of_le, lt_of_le_of_lt, mul-le-mul_right, zero-lt-suc, mul_assoc, mul_comm, mul-le-mul, mul-le-mul_left, mul-lt-mul_of_pos_right, mul-pos, one-mul, pow-suc, mul-one, le-mul_of_pos_right, mul_left_comm, arith, lit<, lit≤, pow_pos, pow-add}
use native.Mathlib.Nat.{one-le-pow, pow-le-pow_right, mul-mul-mul_comm}
use lib.Ieee.{Float, binary64, low, round, mul}
use lib.Ieee.Exact.{HasValue}
use lib.Ieee.Scale.{grid, round_same}
use Rattle.ratio_laws.proofs.Again.{rounded}
use Rattle.ratio_laws.proofs.Scaled.{finite_grid, scaled}
use Rattle.fives.specs.declared.Marked.{Marked}
use Rattle.fives.specs.Fives.{Power, Alike, Stands}

pub tens_pos : (k : ℕ) → 0 < 10 ^ k
tens_pos k = one-le-pow k 10 (zero-lt-suc 9)

pub fives_twos : (k : ℕ) → 5 ^ k * 2 ^ k ≡ 10 ^ k
fives_twos zero = refl
fives_twos (suc k) =
    ap (λ (z : ℕ). z * 2 ^ suc k) (pow-suc 5 k)
    ∙ ap (λ (z : ℕ). 5 ^ k * 5 * z) (pow-suc 2 k)
    ∙ mul-mul-mul_comm (5 ^ k) 5 (2 ^ k) 2
    ∙ ap (λ (z : ℕ). z * 10) (fives_twos k)
    ∙ sym (pow-suc 10 k)

top_value : (s : Bool) (w : ℕ) (x : Float) → w < 2 ^ 64 → x ≡ round binary64 s w 1 → HasValue x s (grid binary64 w 1) (2 ^ low binary64)
top_value s w x h e =
    subst (λ (z : Float). HasValue z s (grid binary64 w 1) (2 ^ low binary64)) (sym e)
    (rounded binary64 s w 1 (finite_grid binary64 w 1 64 (zero-lt-suc 0) (lt_of_lt_of_le h (le_of_eq (sym (mul-one (2 ^ 64))))) (lit≤ tt)))

far : (i k : ℕ) → i < 200 → k ≤ 44 → 52 + (i + k) ≤ 1074
far i k h j = omega arith

near : (i : ℕ) → i < 200 → 52 + i ≤ 1074
near i h = omega arith

over_same : (n b i k : ℕ) → b ≡ 5 ^ k → n * 2 ^ i * 2 ^ 0 * 10 ^ k ≡ n * (b * 2 ^ (i + k))
over_same n b i k e =
    ap (λ (z : ℕ). z * 10 ^ k) (mul-one (n * 2 ^ i))
    ∙ ap (λ (z : ℕ). n * 2 ^ i * z) (sym (fives_twos k) ∙ ap (λ (z : ℕ). z * 2 ^ k) (sym e))
    ∙ mul_assoc n (2 ^ i) (b * 2 ^ k)
    ∙ ap (λ (z : ℕ). n * z) (mul_left_comm (2 ^ i) b (2 ^ k) ∙ ap (λ (z : ℕ). b * z) (sym (pow-add 2 i k)))

over_below : (n b i k : ℕ) → 0 < b → n < 2 ^ 64 → n * 2 ^ i * 2 ^ 0 < 2 ^ 64 * (b * 2 ^ (i + k))
over_below n b i k B h =
    lt_of_le_of_lt (le_of_eq (mul-one (n * 2 ^ i)))
    (lt_of_lt_of_le (mul-lt-mul_of_pos_right h (pow_pos i)) (mul-le-mul_left (2 ^ 64) more))
  where
    more : 2 ^ i ≤ b * 2 ^ (i + k)
    more = le_trans (le-mul_of_pos_right (2 ^ i) (pow_pos k)) (le_trans (le_of_eq (sym (pow-add 2 i k) ∙ sym (one-mul (2 ^ (i + k))))) (mul-le-mul_right (2 ^ (i + k)) B))

pub over_by_fives : (s : Bool) (n b k : ℕ) (m : Marked) (x y : Float) → k ≤ 44 → n < 2 ^ 64 → b ≡ 5 ^ k → Stands n b m
    → x ≡ round binary64 s m.whole 1 → Power 0 (m.shift + k) y → mul binary64 x y ≡ round binary64 s n (10 ^ k)
unfolding Alike
over_by_fives s n b k m x y K N e st ex py =
    let some : 0 < b = subst (λ (z : ℕ). 0 < z) (sym e) (one-le-pow k 5 (zero-lt-suc 4)) in
    scaled binary64 s (n * 2 ^ m.shift) b m.whole 0 (m.shift + k) 64 x y some st.reaches (far m.shift k st.short K) (over_below n b m.shift k some N) (lit≤ tt) st.alike
    (top_value s m.whole x st.large ex) py.value
    ∙ round_same binary64 s (n * 2 ^ m.shift * 2 ^ 0) (b * 2 ^ (m.shift + k)) n (10 ^ k) (mul-pos some (pow_pos (m.shift + k))) (tens_pos k) (over_same n b m.shift k e)

times_same : (n a i k : ℕ) → a ≡ n * 5 ^ k → a * 2 ^ i * 2 ^ (64 + k) ≡ n * 10 ^ k * (2 ^ 32 * 2 ^ 32 * 2 ^ i)
times_same n a i k e =
    ap (λ (z : ℕ). z * 2 ^ i * 2 ^ (64 + k)) e
    ∙ ap (λ (z : ℕ). n * 5 ^ k * 2 ^ i * z) (pow-add 2 64 k ∙ mul_comm (2 ^ 64) (2 ^ k))
    ∙ mul-mul-mul_comm (n * 5 ^ k) (2 ^ i) (2 ^ k) (2 ^ 64)
    ∙ ap (λ (z : ℕ). z * (2 ^ i * 2 ^ 64)) (mul_assoc n (5 ^ k) (2 ^ k) ∙ ap (λ (z : ℕ). n * z) (fives_twos k))
    ∙ ap (λ (z : ℕ). n * 10 ^ k * z) (mul_comm (2 ^ i) (2 ^ 64))

times_below : (n k : ℕ) → n < 2 ^ 64 → k ≤ 22 → n * 10 ^ k < 2 ^ 160
times_below n k h l = lt_of_le_of_lt (mul-le-mul (le_lt n h) (pow-le-pow_right (zero-lt-suc 9) l)) (lit< tt)
  where
    le_lt : (n : ℕ) → n < 2 ^ 64 → n ≤ 2 ^ 64
    le_lt n h = omega arith

pub times_by_fives : (s : Bool) (n a k : ℕ) (m : Marked) (x y : Float) → k ≤ 22 → n < 2 ^ 64 → a ≡ n * 5 ^ k → Stands a (2 ^ 32 * 2 ^ 32) m
    → x ≡ round binary64 s m.whole 1 → Power (64 + k) m.shift y → mul binary64 x y ≡ round binary64 s (n * 10 ^ k) 1
unfolding Alike
times_by_fives s n a k m x y K N e st ex py =
    scaled binary64 s (a * 2 ^ m.shift) (2 ^ 32 * 2 ^ 32) m.whole (64 + k) m.shift 160 x y (zero-lt-suc _) st.reaches (near m.shift st.short)
    (lt_of_le_of_lt (le_of_eq (times_same n a m.shift k e)) (mul-lt-mul_of_pos_right (times_below n k N K) unit)) (lit≤ tt) st.alike
    (top_value s m.whole x st.large ex) py.value
    ∙ round_same binary64 s (a * 2 ^ m.shift * 2 ^ (64 + k)) (2 ^ 32 * 2 ^ 32 * 2 ^ m.shift) (n * 10 ^ k) 1 unit (zero-lt-suc 0)
    (mul-one (a * 2 ^ m.shift * 2 ^ (64 + k)) ∙ times_same n a m.shift k e)
  where
    unit : 0 < 2 ^ 32 * 2 ^ 32 * 2 ^ m.shift
    unit = mul-pos (lit< tt) (pow_pos m.shift)
