-- The coordinates of a cell, spread onto masks that take every d-th bit, lie side by side: level k of what they make is the cell's quadrant
-- of level k. Assumes nothing.
use Prim.Native.Nat.{ℕ, zero, suc, ◌+◌, ◌-◌, ◌*◌, ◌/◌, ◌%◌, ◌^◌, ◌≤◌, ◌<◌}
use mathlib.Core.Path.{◌≡◌, refl, sym, ap, ap₂, ◌∙◌, subst}
use native.Mathlib.Omega.{arith}
use native.Mathlib.Nat.{zero-add, suc-add, add-zero, mul-one, one-mul, zero-mul, mul_assoc, mul_comm, add-mul, pow-suc, div-one, div-eq_of_lt, mul-zero, mod-lt, lt_of_lt_of_le, le_of_lt, mul-lt-mul_of_pos_right}
use lib.Dec.{lit<}
use lib.Arith.{digits_lt, digits_div, digits_mod}
use lib.Bits.{bit_and, bit_or, and_zero_l, and_block, and_shifted, or_disjoint}
use lib.Pow.{pow-add, pow_pos, pow_mono, shr-shr}
use Rattle.rules.specs.Curve.{spread, bit, level, quadrant}
use Rattle.curve_laws.proofs.Parts.{more, quadrant_lt}
use Rattle.curve_laws.proofs.Spread.{spread_bit, spread_zero}

-- bits of the mask that are not set are passed over
skip : (e k s m : ℕ) → spread (e + k) s (m * 2 ^ e) ≡ spread k s m * 2 ^ e
skip zero k s m = ap₂ (λ (n w : ℕ). spread n s w) (zero-add k) (mul-one m) ∙ sym (mul-one (spread k s m))
skip (suc e) k s m =
    let p : m * 2 ^ suc e ≡ m * 2 ^ e * 2 + 0 = ap (λ (n : ℕ). m * n) (pow-suc 2 e) ∙ sym (mul_assoc m (2 ^ e) 2) ∙ sym (add-zero _) in
    let q : spread k s m * 2 ^ e * 2 + 0 ≡ spread k s m * 2 ^ suc e =
    add-zero _ ∙ mul_assoc (spread k s m) (2 ^ e) 2 ∙ ap (λ (n : ℕ). spread k s m * n) (sym (pow-suc 2 e))
    in
    ap₂ (λ (n w : ℕ). spread n s w) (suc-add e k) p
    ∙ spread_bit (e + k) s (m * 2 ^ e) 0 (lit< tt)
    ∙ ap (λ (n : ℕ). n * 2 + 0) (skip e k s m)
    ∙ q

-- products regrouped
pub swap : (a b c : ℕ) → a * b * c ≡ a * c * b
swap a b c = mul_assoc a b c ∙ ap (λ (n : ℕ). a * n) (mul_comm b c) ∙ sym (mul_assoc a c b)

spaced : (a b e f : ℕ) → (a * 2 ^ f * 2 + b) * 2 ^ e ≡ a * 2 ^ (e + suc f) + b * 2 ^ e
spaced a b e f =
    add-mul (a * 2 ^ f * 2) b (2 ^ e)
    ∙ ap (λ (n : ℕ). n + b * 2 ^ e)
    (ap (λ (n : ℕ). n * 2 ^ e) (mul_assoc a (2 ^ f) 2 ∙ ap (λ (n : ℕ). a * n) (sym (pow-suc 2 f)))
    ∙ mul_assoc a (2 ^ suc f) (2 ^ e)
    ∙ ap (λ (n : ℕ). a * n) (mul_comm (2 ^ suc f) (2 ^ e) ∙ sym (pow-add 2 e (suc f))))

-- the lowest n runs of w bits of s, d places apart
unfoldable pub runs : ℕ → ℕ → ℕ → ℕ → ℕ
runs d w zero s = 0
runs d w (suc n) s = runs d w n (s / 2 ^ w) * 2 ^ d + s % 2 ^ w

-- the lowest n bits of s, d places apart
abbrev pub stretch : ℕ → ℕ → ℕ → ℕ
stretch d n s = runs d 1 n s

-- n set bits, d places apart, the first at place e, below the mask t
abbrev pub comb : ℕ → ℕ → ℕ → ℕ → ℕ
comb d e zero t = t
comb d e (suc n) t = comb d e n t * 2 ^ d + 2 ^ e

-- how many bits those are, with the k of t
abbrev pub room : ℕ → ℕ → ℕ → ℕ
room d zero k = k
room d (suc n) k = d + room d n k

one_block : (d e k s m : ℕ) → e < d → spread (d + k) s (m * 2 ^ d + 2 ^ e) ≡ spread k (s / 2) m * 2 ^ d + s % 2 * 2 ^ e
one_block d e k s m h =
    let f : ℕ = d - suc e in
    let p : d ≡ e + suc f = omega arith in
    let q : d + k ≡ e + suc (f + k) = omega arith in
    let u : m * 2 ^ d + 2 ^ e ≡ (m * 2 ^ f * 2 + 1) * 2 ^ e =
    ap₂ (λ (n w : ℕ). m * 2 ^ n + w) p (sym (one-mul (2 ^ e))) ∙ sym (spaced m 1 e f)
    in
    ap₂ (λ (n w : ℕ). spread n s w) q u
    ∙ skip e (suc (f + k)) s (m * 2 ^ f * 2 + 1)
    ∙ ap (λ (n : ℕ). n * 2 ^ e) (spread_bit (f + k) s (m * 2 ^ f) 1 (lit< tt) ∙ ap (λ (n : ℕ). n * 2 + s % 2) (skip f k (s / 2) m))
    ∙ spaced (spread k (s / 2) m) (s % 2) e f
    ∙ ap (λ (n : ℕ). spread k (s / 2) m * 2 ^ n + s % 2 * 2 ^ e) (sym p)

-- the deposit onto a comb, where the mask below which it stands takes nothing of what is left of the source
pub on_comb : (d e n k t s : ℕ) → e < d → spread k (s / 2 ^ n) t ≡ 0 → spread (room d n k) s (comb d e n t) ≡ stretch d n s * 2 ^ e
unfolding runs
on_comb d e zero k t s h l = ap (λ (x : ℕ). spread k x t) (sym (div-one s)) ∙ l ∙ sym (zero-mul (2 ^ e))
on_comb d e (suc n) k t s h l =
    let p : 1 + n ≡ suc n = omega arith in
    let left : s / 2 / 2 ^ n ≡ s / 2 ^ suc n = shr-shr s 1 n ∙ ap (λ (m : ℕ). s / 2 ^ m) p in
    one_block d e (room d n k) s (comb d e n t) h
    ∙ ap (λ (x : ℕ). x * 2 ^ d + s % 2 * 2 ^ e) (on_comb d e n k t (s / 2) h (ap (λ (x : ℕ). spread k x t) left ∙ l))
    ∙ ap (λ (x : ℕ). x + s % 2 * 2 ^ e) (swap (stretch d n (s / 2)) (2 ^ e) (2 ^ d))
    ∙ sym (add-mul (stretch d n (s / 2) * 2 ^ d) (s % 2) (2 ^ e))

-- a longer comb, for a shorter source
comb_split : (d e n r t : ℕ) → comb d e (n + r) t ≡ comb d e n (comb d e r t)
comb_split d e zero r t = ap (λ (m : ℕ). comb d e m t) (zero-add r)
comb_split d e (suc n) r t = ap (λ (m : ℕ). comb d e m t) (suc-add n r) ∙ ap (λ (m : ℕ). m * 2 ^ d + 2 ^ e) (comb_split d e n r t)

room_split : (d n r k : ℕ) → room d (n + r) k ≡ room d n (room d r k)
room_split d zero r k = ap (λ (m : ℕ). room d m k) (zero-add r)
room_split d (suc n) r k = ap (λ (m : ℕ). room d m k) (suc-add n r) ∙ ap (λ (m : ℕ). d + m) (room_split d n r k)

pub deposited : (d e n k t o s : ℕ) → e < d → o ≤ n → s < 2 ^ o → spread (room d n k) s (comb d e n t) ≡ stretch d o s * 2 ^ e
deposited d e n k t o s h l q =
    let r : ℕ = n - o in
    let p : n ≡ o + r = omega arith in
    ap (λ (m : ℕ). spread (room d m k) s (comb d e m t)) p
    ∙ ap₂ (λ (m w : ℕ). spread m s w) (room_split d o r k) (comb_split d e o r t)
    ∙ on_comb d e o (room d r k) (comb d e r t) s h (ap (λ (x : ℕ). spread (room d r k) x (comb d e r t)) (div-eq_of_lt q) ∙ spread_zero (room d r k) (comb d e r t))

-- the sum over the axes
pub mix : ℕ → ℕ → ℕ → (ℕ → ℕ) → ℕ
mix zero d n c = 0
mix (suc e) d n c = stretch d n (c e) * 2 ^ e + mix e d n c

mix_down : (e d n : ℕ) (c : ℕ → ℕ) → mix e d (suc n) c ≡ mix e d n (λ e. c e / 2) * 2 ^ d + quadrant e 0 c
unfolding mix runs
mix_down zero d n c = omega arith
mix_down (suc e) d n c =
    let S : ℕ = stretch d n (c e / 2) in
    let M : ℕ = mix e d n (λ e. c e / 2) in
    let b : bit 0 (c e) * 2 ^ e ≡ c e % 2 * 2 ^ e = ap (λ (x : ℕ). x % 2 * 2 ^ e) (div-one (c e)) in
    omega (arith, add-mul (S * 2 ^ d) (c e % 2) (2 ^ e), add-mul (S * 2 ^ e) M (2 ^ d), swap S (2 ^ d) (2 ^ e), mix_down e d n c, b)

quadrant_down : (e k : ℕ) (c : ℕ → ℕ) → quadrant e k (λ e. c e / 2) ≡ quadrant e (suc k) c
quadrant_down zero k c = refl
quadrant_down (suc e) k c =
    let p : 1 + k ≡ suc k = omega arith in
    ap₂ (λ (x y : ℕ). x % 2 * 2 ^ e + y) (shr-shr (c e) 1 k ∙ ap (λ (n : ℕ). c e / 2 ^ n) p) (quadrant_down e k c)

pub mix_level : (d n k : ℕ) (c : ℕ → ℕ) → k < n → level d k (mix d d n c) ≡ quadrant d k c
mix_level d zero k c h = absurd (omega arith)
mix_level d (suc n) zero c h =
    ap (λ (m : ℕ). mix d d (suc n) c / 2 ^ m % 2 ^ d) (mul-zero d)
    ∙ ap (λ (m : ℕ). m % 2 ^ d) (div-one (mix d d (suc n) c) ∙ mix_down d d n c)
    ∙ digits_mod (mix d d n (λ e. c e / 2)) (quadrant_lt d 0 c)
mix_level d (suc n) (suc k) c h =
    ap (λ (m : ℕ). mix d d (suc n) c / 2 ^ m % 2 ^ d) (sym (more d k))
    ∙ ap (λ (m : ℕ). m % 2 ^ d)
    (sym (shr-shr (mix d d (suc n) c) d (d * k))
    ∙ ap (λ (m : ℕ). m / 2 ^ (d * k)) (ap (λ (m : ℕ). m / 2 ^ d) (mix_down d d n c) ∙ digits_div (mix d d n (λ e. c e / 2)) (quadrant_lt d 0 c)))
    ∙ mix_level d n k (λ e. c e / 2) (omega arith)
    ∙ quadrant_down d k c

mix_none : (e d : ℕ) (c : ℕ → ℕ) → mix e d 0 c ≡ 0
unfolding mix runs
mix_none zero d c = refl
mix_none (suc e) d c = omega (arith, zero-mul (2 ^ e), mix_none e d c)

pub mix_lt : (d n : ℕ) (c : ℕ → ℕ) → mix d d n c < 2 ^ (d * n)
mix_lt d zero c = omega (arith, mix_none d d c, pow_pos (d * 0))
mix_lt d (suc n) c =
    let p : d * n + d ≡ d * suc n = omega (arith, more d n) in
    subst (λ (x : ℕ). x < 2 ^ (d * suc n)) (sym (mix_down d d n c))
    (subst (λ (x : ℕ). mix d d n (λ e. c e / 2) * 2 ^ d + quadrant d 0 c < x) (sym (pow-add 2 (d * n) d) ∙ ap (λ (x : ℕ). 2 ^ x) p)
    (digits_lt (mix_lt d n (λ e. c e / 2)) (quadrant_lt d 0 c)))

-- the axes' bits do not meet, so that `bit_or` adds them up
no_bit_in_common : (e d n s : ℕ) (c : ℕ → ℕ) → e < d → bit_and (stretch d n s * 2 ^ e) (mix e d n c) ≡ 0
unfolding runs
no_bit_in_common e d zero s c h = ap (λ (x : ℕ). bit_and x (mix e d 0 c)) (zero-mul (2 ^ e)) ∙ and_zero_l (mix e d 0 c)
no_bit_in_common e d (suc n) s c h =
    let S : ℕ = stretch d n (s / 2) in
    let b : ℕ = s % 2 in
    let k : ℕ → ℕ = λ e. c e / 2 in
    let up : (S * 2 ^ d + b) * 2 ^ e ≡ S * 2 ^ e * 2 ^ d + b * 2 ^ e = add-mul (S * 2 ^ d) b (2 ^ e) ∙ ap (λ (x : ℕ). x + b * 2 ^ e) (swap S (2 ^ d) (2 ^ e)) in
    let l : b * 2 ^ e < 2 ^ d = lt_of_lt_of_le (mul-lt-mul_of_pos_right (mod-lt s (lit< tt)) (pow_pos e)) (at_most_double e d h) in
    ap₂ bit_and up (mix_down e d n c)
    ∙ and_block d (S * 2 ^ e) (mix e d n k) (b * 2 ^ e) (quadrant e 0 c) l (lt_of_lt_of_le (quadrant_lt e 0 c) (pow_mono (le_of_lt h)))
    ∙ ap₂ (λ (x y : ℕ). x * 2 ^ d + y) (no_bit_in_common e d n (s / 2) k h) (and_shifted b e (quadrant e 0 c) (quadrant_lt e 0 c))
    ∙ omega (arith, zero-mul (2 ^ d))
  where
    at_most_double : (e d : ℕ) → e < d → 2 * 2 ^ e ≤ 2 ^ d
    at_most_double e d h = let l : suc e ≤ d = h in omega (arith, pow_mono l, pow-suc 2 e)

pub or_mix : (e d n : ℕ) (c : ℕ → ℕ) → e < d → bit_or (stretch d n (c e) * 2 ^ e) (mix e d n c) ≡ mix (suc e) d n c
unfolding mix
or_mix e d n c h = or_disjoint (stretch d n (c e) * 2 ^ e) (mix e d n c) (no_bit_in_common e d n (c e) c h)

pub mix_one : (d n : ℕ) (c : ℕ → ℕ) → stretch d n (c 0) * 2 ^ 0 ≡ mix 1 d n c
unfolding mix
mix_one d n c = sym (add-zero (stretch d n (c 0) * 2 ^ 0))
