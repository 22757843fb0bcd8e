-- The levels to come of a number, the next of them in the topmost of 64 places: one turn takes some from the top, and shifts up the rest.
-- Assumes nothing.
use Prim.Native.Nat.{ℕ, ◌+◌, ◌-◌, ◌*◌, ◌/◌, ◌%◌, ◌^◌, ◌≤◌, ◌<◌}
use mathlib.Core.Path.{◌≡◌, sym, ap, ap₂, ◌∙◌}
use native.Mathlib.Omega.{arith}
use native.Mathlib.Nat.{mul_assoc, mul-one, mul-add}
use lib.Pow.{pow-add, field, shr-shr, shl-shr}
use Rattle.std.proofs.lemmas.Nat.{mul-mod_first}
use Rattle.rules.specs.Curve.{level}

-- n in base 2^d, of which so many levels are left
abbrev pub on_top : ℕ → ℕ → ℕ → ℕ
on_top d left n = n * 2 ^ (64 - d * left) % 2 ^ 64

-- k levels more
several : (d k left : ℕ) → k ≤ left → d * k + d * (left - k) ≡ d * left
several d k left h = let e : k + (left - k) ≡ left = omega arith in sym (mul-add d k (left - k)) ∙ ap (λ (n : ℕ). d * n) e

-- k levels at once, of those that are left
pub top_levels : (d k left n : ℕ) → k ≤ left → d * left ≤ 64 → on_top d left n / 2 ^ (64 - d * k) ≡ n / 2 ^ (d * (left - k)) % 2 ^ (d * k)
top_levels d k left n h l =
    let m : ℕ = d * (left - k) in
    let a : ℕ = 64 - d * left in
    let u : 64 ≡ d * k + (a + m) = omega (arith, several d k left h) in
    let v : 64 - d * k ≡ a + m = omega arith in
    ap₂ (λ (i j : ℕ). n * 2 ^ a % 2 ^ i / 2 ^ j) u v
    ∙ field (n * 2 ^ a) (d * k) (a + m)
    ∙ ap (λ (i : ℕ). i % 2 ^ (d * k)) (sym (shr-shr (n * 2 ^ a) a m) ∙ ap (λ (i : ℕ). i / 2 ^ m) (shl-shr n a))

-- the rest of them
pub next_levels : (d k left n : ℕ) → k ≤ left → d * left ≤ 64 → on_top d left n * 2 ^ (d * k) % 2 ^ 64 ≡ on_top d (left - k) n
next_levels d k left n h l =
    let a : ℕ = 64 - d * left in
    let u : a + d * k ≡ 64 - d * (left - k) = omega (arith, several d k left h) in
    mul-mod_first (n * 2 ^ a) (2 ^ (d * k)) (2 ^ 64)
    ∙ ap (λ (i : ℕ). i % 2 ^ 64) (mul_assoc n (2 ^ a) (2 ^ (d * k)) ∙ ap (λ (i : ℕ). n * i) (sym (pow-add 2 a (d * k)) ∙ ap (λ (i : ℕ). 2 ^ i) u))

-- k levels where only so many are left, filled up with zero bits
pub top_padded : (d k left n : ℕ) → left ≤ k → d * k ≤ 64 → d * left ≤ d * k → on_top d left n / 2 ^ (64 - d * k) ≡ n * 2 ^ (d * k - d * left) % 2 ^ (d * k)
top_padded d k left n h l p =
    let a : ℕ = d * k - d * left in
    let m : ℕ = 64 - d * k in
    let u : 64 - d * left ≡ a + m = omega arith in
    let v : 64 ≡ d * k + m = omega arith in
    ap₂ (λ (i j : ℕ). n * 2 ^ i % 2 ^ j / 2 ^ m) u v
    ∙ field (n * 2 ^ (a + m)) (d * k) m
    ∙ ap (λ (i : ℕ). i / 2 ^ m % 2 ^ (d * k)) (ap (λ (i : ℕ). n * i) (pow-add 2 a m) ∙ sym (mul_assoc n (2 ^ a) (2 ^ m)))
    ∙ ap (λ (i : ℕ). i % 2 ^ (d * k)) (shl-shr (n * 2 ^ a) m)

-- one level at a time
pub top_digit : (d left n : ℕ) → 0 < left → d * left ≤ 64 → on_top d left n / 2 ^ (64 - d) ≡ level d (left - 1) n
top_digit d left n p l =
    ap (λ (i : ℕ). on_top d left n / 2 ^ (64 - i)) (sym (mul-one d)) ∙ top_levels d 1 left n p l ∙ ap (λ (i : ℕ). n / 2 ^ (d * (left - 1)) % 2 ^ i) (mul-one d)

pub next_digits : (d left n : ℕ) → 0 < left → d * left ≤ 64 → on_top d left n * 2 ^ d % 2 ^ 64 ≡ on_top d (left - 1) n
next_digits d left n p l = ap (λ (i : ℕ). on_top d left n * 2 ^ i % 2 ^ 64) (sym (mul-one d)) ∙ next_levels d 1 left n p l
