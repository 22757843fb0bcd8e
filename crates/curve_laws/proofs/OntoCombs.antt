-- The deposit onto a comb, as far as 64 bits have room for its teeth: the source's bits stretched, and shifted to the first tooth; tooth k takes
-- bit k. Assumes nothing.
use Prim.Native.Nat.{ℕ, zero, suc, ◌+◌, ◌*◌, ◌/◌, ◌%◌, ◌^◌, ◌<◌}
use mathlib.Core.Path.{◌≡◌, refl, sym, ap, ap₂, ◌∙◌}
use native.Mathlib.Omega.{arith}
use native.Mathlib.Nat.{suc-add, mul-zero, mul-one, mod-lt, mod-one, pow-suc, lt_of_lt_of_le}
use lib.Arith.{digits_div, digits_mod, mod-mul}
use lib.Pow.{pow_pos, pow_mono, shr-shr, shl-shr, field, mod-mod-pow}
use lib.Dec.{lit<, lit≤}
use Rattle.rules.specs.Curve.{spread, rest, placed, deposit_of, part, bit}
use Rattle.curve_laws.proofs.Parts.{more, part_mod, part_low}
use Rattle.curve_laws.proofs.Interleave.{runs, stretch, on_comb, comb, room}
use Rattle.curve_laws.proofs.SpreadInSteps.{drop_top}

-- the lowest bits of the mask decide the lowest bits of what is placed

placed_lt : (b s : ℕ) → placed b s < 2
placed_lt zero s = lit< tt
placed_lt (suc b) s = mod-lt s (lit< tt)

mask_low : (k s m : ℕ) → spread k s (m % 2 ^ k) ≡ spread k s m
unfolding spread
mask_low zero s m = refl
mask_low (suc k) s m =
    let e : k + 1 ≡ suc k = omega arith in
    let q : m % 2 ^ suc k / 2 ≡ m / 2 % 2 ^ k = ap (λ (x : ℕ). m % 2 ^ x / 2) (sym e) ∙ field m k 1 in
    let r : m % 2 ^ suc k % 2 ≡ m % 2 = ap (λ (x : ℕ). m % 2 ^ x % 2) (sym e) ∙ mod-mod-pow m k 1 in
    ap₂ (λ (x y : ℕ). spread k (rest y s) x * 2 + placed y s) q r
    ∙ ap (λ (x : ℕ). x * 2 + placed (m % 2) s) (mask_low k (rest (m % 2) s) (m / 2))

bits_low : (k j s m : ℕ) → spread (k + j) s m % 2 ^ k ≡ spread k s m
unfolding spread
bits_low zero j s m = mod-one (spread (zero + j) s m)
bits_low (suc k) j s m =
    let A : ℕ = spread (k + j) (rest (m % 2) s) (m / 2) in
    let b : ℕ = placed (m % 2) s in
    let h : b < 2 = placed_lt (m % 2) s in
    ap (λ (n : ℕ). spread n s m % 2 ^ suc k) (suc-add k j)
    ∙ ap (λ (n : ℕ). (A * 2 + b) % n) (pow-suc 2 k)
    ∙ mod-mul (A * 2 + b) (pow_pos k) (lit< tt)
    ∙ ap₂ (λ (x y : ℕ). x % 2 ^ k * 2 + y) (digits_div A h) (digits_mod A h)
    ∙ ap (λ (x : ℕ). x * 2 + b) (bits_low k j (rest (m % 2) s) (m / 2))

-- bit k of s stands at place d * k of what is stretched
stretched_bit : (d n k s : ℕ) → 0 < d → k < n → bit (d * k) (stretch d n s) ≡ bit k s
unfolding runs
stretched_bit d zero k s h l = absurd (omega arith)
stretched_bit d (suc n) zero s h l =
    ap (λ (x : ℕ). part 1 x (stretch d n (s / 2) * 2 ^ d + s % 2)) (mul-zero d)
    ∙ part_low 1 0 d (stretch d n (s / 2)) h (lt_of_lt_of_le (mod-lt s (lit< tt)) (pow_mono h))
    ∙ part_mod 1 0 1 s (lit≤ tt)
stretched_bit d (suc n) (suc k) s h l =
    let q : 1 + k ≡ suc k = omega arith in
    ap (λ (x : ℕ). part 1 x (stretch d n (s / 2) * 2 ^ d + s % 2)) (sym (more d k))
    ∙ ap (λ (x : ℕ). x % 2)
    (sym (shr-shr (stretch d n (s / 2) * 2 ^ d + s % 2) d (d * k))
    ∙ ap (λ (x : ℕ). x / 2 ^ (d * k)) (digits_div (stretch d n (s / 2)) (lt_of_lt_of_le (mod-lt s (lit< tt)) (pow_mono h))))
    ∙ stretched_bit d n k (s / 2) h (omega arith)
    ∙ ap (λ (x : ℕ). x % 2) (shr-shr s 1 k ∙ ap (λ (x : ℕ). s / 2 ^ x) q)

-- the deposit onto a comb of n teeth, d apart, the first at place e, as far as 64 bits have room for it
module _ (d n j s : ℕ) (long : room d n 0 ≡ 64 + j) where
  on_mask : (e mask : ℕ) → e < d → mask ≡ comb d e n 0 % 2 ^ 64 → deposit_of s mask ≡ stretch d n s * 2 ^ e % 2 ^ 64
  unfolding spread
  on_mask e mask h q =
      ap (spread 64 s) q
      ∙ mask_low 64 s (comb d e n 0)
      ∙ sym (bits_low 64 j s (comb d e n 0))
      ∙ ap (λ (x : ℕ). x % 2 ^ 64) (ap (λ (x : ℕ). spread x s (comb d e n 0)) (sym long) ∙ on_comb d e n 0 0 s h refl)

  -- tooth k takes bit k of the source
  pub on_tooth : (e mask k : ℕ) → e < d → mask ≡ comb d e n 0 % 2 ^ 64 → k < n → e + d * k < 64 → bit (e + d * k) (deposit_of s mask) ≡ bit k s
  on_tooth e mask k h q l r =
      ap (bit (e + d * k)) (on_mask e mask h q)
      ∙ part_mod 1 (e + d * k) 64 (stretch d n s * 2 ^ e) (omega arith)
      ∙ ap (λ (x : ℕ). x % 2) (sym (shr-shr (stretch d n s * 2 ^ e) e (d * k)) ∙ ap (λ (x : ℕ). x / 2 ^ (d * k)) (shl-shr (stretch d n s) e))
      ∙ stretched_bit d n k s (omega arith) l

  -- onto the comb from place 0
  pub on_first : (mask : ℕ) → 0 < d → mask ≡ comb d 0 n 0 % 2 ^ 64 → stretch d n s % 2 ^ 64 ≡ deposit_of s mask
  on_first mask h q = sym (on_mask 0 mask h q ∙ ap (λ (x : ℕ). x % 2 ^ 64) (mul-one (stretch d n s)))

  -- and from place e, by a shift
  pub on_other : (e first mask : ℕ) → e < d → first ≡ comb d 0 n 0 % 2 ^ 64 → mask ≡ comb d e n 0 % 2 ^ 64
      → deposit_of s first * 2 ^ e % 2 ^ 64 ≡ deposit_of s mask
  on_other e first mask h q r =
      ap (λ (x : ℕ). x * 2 ^ e % 2 ^ 64) (sym (on_first first (omega arith) q))
      ∙ drop_top (2 ^ 64) (stretch d n s) (2 ^ e)
      ∙ sym (on_mask e mask h r)
