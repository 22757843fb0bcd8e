-- Bits and levels of a number, and the quadrants of a cell. Assumes nothing.
use Prim.Native.Nat.{ℕ, zero, suc, ◌+◌, ◌-◌, ◌*◌, ◌/◌, ◌%◌, ◌^◌, ◌≤◌, ◌<◌}
use mathlib.Core.Path.{◌≡◌, refl, sym, ap, ap₂, ◌∙◌, subst}
use native.Mathlib.Omega.{arith}
use native.Mathlib.Decide.{ℕ_discrete}
use native.Mathlib.Nat.{mod-eq_of_lt, mod-lt, mul-add, mul-suc}
use lib.Dec.{lit<}
use lib.Arith.{digits_lt}
use lib.Pow.{pow_pos, pow-add, high, low, field, mod-mod-pow, mod-pow-add}
use Rattle.rules.specs.Curve.{part, bit, level, quadrant}

pub part_lt : (w m n : ℕ) → part w m n < 2 ^ w
part_lt w m n = mod-lt (n / 2 ^ m) (pow_pos w)

-- what stands above and below place m
pub part_top : (w m : ℕ) {D R : ℕ} → D < 2 ^ w → R < 2 ^ m → part w m (D * 2 ^ m + R) ≡ D
part_top w m {D} p q = ap (λ (x : ℕ). x % 2 ^ w) (high D m q) ∙ mod-eq_of_lt p

pub part_mod : (w m n z : ℕ) → m + w ≤ n → part w m (z % 2 ^ n) ≡ part w m z
part_mod w m n z h =
    let r : ℕ = n - w - m in
    let e : n ≡ r + w + m = omega arith in
    ap (λ (x : ℕ). z % 2 ^ x / 2 ^ m % 2 ^ w) e
    ∙ ap (λ (x : ℕ). x % 2 ^ w) (field z (r + w) m)
    ∙ mod-mod-pow (z / 2 ^ m) r w

pub part_low : (w m n D : ℕ) {R : ℕ} → m + w ≤ n → R < 2 ^ n → part w m (D * 2 ^ n + R) ≡ part w m R
part_low w m n D {R} h q = sym (part_mod w m n (D * 2 ^ n + R) h) ∙ ap (part w m) (low D n q)

-- one more level
pub more : (d k : ℕ) → d + d * k ≡ d * suc k
more d k = omega (arith, mul-suc d k)

pub below : (d j k : ℕ) → j < k → d * j + d ≤ d * k
below d j k h =
    let r : ℕ = k - suc j in
    let e : k ≡ suc j + r = omega arith in
    omega (arith, mul-suc d j, ap (λ (x : ℕ). d * x) e, mul-add d (suc j) r)

pub level_more : (d k n : ℕ) → level d k n * 2 ^ (d * k) + n % 2 ^ (d * k) ≡ n % 2 ^ (d * suc k)
level_more d k n = sym (mod-pow-add n d (d * k)) ∙ ap (λ (x : ℕ). n % 2 ^ x) (more d k)

pub bit_more : (k n : ℕ) → bit k n * 2 ^ k + n % 2 ^ k ≡ n % 2 ^ suc k
bit_more k n = let e : 1 + k ≡ suc k = omega arith in sym (mod-pow-add n 1 k) ∙ ap (λ (x : ℕ). n % 2 ^ x) e

pub bit_lt : (k : ℕ) {b r : ℕ} → b < 2 → r < 2 ^ k → b * 2 ^ k + r < 2 ^ suc k
bit_lt k {b} {r} p q =
    let e : 1 + k ≡ suc k = omega arith in
    subst (λ (x : ℕ). b * 2 ^ k + r < x) (sym (pow-add 2 1 k) ∙ ap (λ (x : ℕ). 2 ^ x) e) (digits_lt p q)

-- the quadrants of a cell
pub quadrant_lt : (d k : ℕ) (c : ℕ → ℕ) → quadrant d k c < 2 ^ d
quadrant_lt zero k c = lit< tt
quadrant_lt (suc d) k c = bit_lt d (part_lt 1 k (c d)) (quadrant_lt d k c)

pub quadrant_same : (d k : ℕ) (b c : ℕ → ℕ) → ((e : ℕ) → bit k (b e) ≡ bit k (c e)) → quadrant d k b ≡ quadrant d k c
quadrant_same zero k b c h = refl
quadrant_same (suc d) k b c h = ap₂ (λ (x y : ℕ). x * 2 ^ d + y) (h d) (quadrant_same d k b c h)

-- the bit of axis e is the coordinate's
pub bit_quadrant : (d k e : ℕ) (c : ℕ → ℕ) → e < d → bit e (quadrant d k c) ≡ bit k (c e)
bit_quadrant zero k e c h = absurd (omega arith)
bit_quadrant (suc d) k e c h =
    elim (ℕ_discrete e d) [
      | yes p ↦ subst (λ (x : ℕ). bit x (quadrant (suc d) k c) ≡ bit k (c x)) (sym p) (part_top 1 d (part_lt 1 k (c d)) (quadrant_lt d k c))
      | no ne ↦ part_low 1 e d (bit k (c d)) (omega arith) (quadrant_lt d k c) ∙ bit_quadrant d k e c (omega arith)
    ]

-- a quadrant is known by its bits
pub quadrant_is : (d k q : ℕ) (c : ℕ → ℕ) → ((e : ℕ) → bit k (c e) ≡ bit e q) → quadrant d k c ≡ q % 2 ^ d
quadrant_is zero k q c h = omega arith
quadrant_is (suc d) k q c h = ap₂ (λ (x y : ℕ). x * 2 ^ d + y) (h d) (quadrant_is d k q c h) ∙ bit_more d q
