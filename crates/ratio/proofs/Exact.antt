-- Digits up to 2 ^ 53 over and times a power of ten that is a float exactly. Assumes nothing.
use Prim.Native.Nat.{ℕ, zero, suc, ◌*◌, ◌^◌, ◌≤◌}
use mathlib.Core.Path.{◌≡◌, sym, ap, ◌∙◌, subst}
use mathlib.Core.Bool.{Bool, false}
use native.Mathlib.Nat.{zero-mul, zero-lt-suc, one-mul}
use native.Mathlib.Omega.{arith}
use lib.Ieee.{Float, binary64, round, mul, div}
use lib.Ieee.Back.{round_whole}
use lib.Ieee.Exact.{HasValue}
use lib.Ieee.Scale.{round_same}
use Rattle.ratio_laws.proofs.Exactly.{quotient, product}
use Rattle.fives.proofs.ByFives.{tens_pos}
use Rattle.ratio.specs.Ratio.{Tens}

whole_value : (s : Bool) (n : ℕ) (x : Float) → n ≤ 2 ^ 53 → x ≡ round binary64 s n 1 → HasValue x s n 1
whole_value s n x h e = subst (λ (z : Float). HasValue z s n 1) (sym e) (round_whole binary64 s n h)

pub over_exactly : (s : Bool) (n k : ℕ) (x y : Float) → n ≤ 2 ^ 53 → x ≡ round binary64 s n 1 → Tens k y → div binary64 x y ≡ round binary64 s n (10 ^ k)
over_exactly s n k x y h e t = quotient binary64 s x y n 1 (10 ^ k) (zero-lt-suc 0) (tens_pos k) (whole_value s n x h e) t.value ∙ ap (λ (z : ℕ). round binary64 s n z) (one-mul (10 ^ k))

pub times_exactly : (s : Bool) (n k : ℕ) (x y : Float) → n ≤ 2 ^ 53 → x ≡ round binary64 s n 1 → Tens k y → mul binary64 x y ≡ round binary64 s (n * 10 ^ k) 1
times_exactly s n k x y h e t = product binary64 s x y n 1 (10 ^ k) 1 (zero-lt-suc 0) (zero-lt-suc 0) (whole_value s n x h e) t.value

pub none_over : (s : Bool) (k : ℕ) → round binary64 s 0 1 ≡ round binary64 s 0 (10 ^ k)
none_over s k = round_same binary64 s 0 1 0 (10 ^ k) (zero-lt-suc 0) (tens_pos k) (zero-mul (10 ^ k))

-- ---- the arms of a match that lists the powers of ten
pub arm : {k i : ℕ} {x : Float} → i ≡ k → HasValue x false (10 ^ k) 1 → Tens i x
arm {k} {i} {x} e h = subst (λ (n : ℕ). Tens n x) (sym e) (record { value = h })

-- x is none of 0 to n - 1
abbrev pub NoneOf : ℕ → ℕ → Type 0
NoneOf zero x = Unit
NoneOf (suc n) x = NoneOf n x × (x ≡ n → ⊥)

above : (n : ℕ) {x : ℕ} → NoneOf n x → n ≤ x
above zero h = omega arith
above (suc n) h = let a = above n h.0 in let b = h.1 in omega arith

pub last : (n : ℕ) {x : ℕ} → x ≤ n → NoneOf n x → x ≡ n
last n l h = let a = above n h in omega arith
