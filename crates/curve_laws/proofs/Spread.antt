-- One turn of the deposit: the mask's lowest set bit takes the source's lowest bit, and the rest of the source goes to the rest of the mask.
-- Assumes nothing.
use Prim.Native.Nat.{ℕ, zero, suc, ◌+◌, ◌-◌, ◌*◌, ◌/◌, ◌%◌, ◌^◌, ◌<◌}
use mathlib.Core.Path.{◌≡◌, refl, sym, ap, ap₂, ◌∙◌, subst}
use native.Mathlib.Omega.{arith}
use native.Mathlib.Decide.{ℕ_discrete}
use native.Mathlib.Nat.{pow-suc, mul_assoc, mul-zero, add-zero, mul-one, div-add-mod'}
use lib.Dec.{lit<}
use lib.Arith.{digits_div, digits_mod}
use lib.Bits.{bit_and, and_block, and_self, and_zero_l, and_mask, bit_or, or_block, or_zero_l, or_zero_r}
use Rattle.rules.specs.Curve.{rest, placed, spread}

pub spread_bit : (k s g r : ℕ) → r < 2 → spread (suc k) s (g * 2 + r) ≡ spread k (rest r s) g * 2 + placed r s
unfolding spread
spread_bit k s g r p = ap₂ (λ (q b : ℕ). spread k (rest b s) q * 2 + placed b s) (digits_div g p) (digits_mod g p)

-- onto no set bit
pub spread_none : (k s : ℕ) → spread k s 0 ≡ 0
unfolding spread
spread_none zero s = refl
spread_none (suc k) s = omega (arith, spread_none k s)

-- a source of zero bits
rest_zero : (b : ℕ) → rest b 0 ≡ 0
rest_zero zero = refl
rest_zero (suc b) = refl

placed_zero : (b : ℕ) → placed b 0 ≡ 0
placed_zero zero = refl
placed_zero (suc b) = refl

pub spread_zero : (k m : ℕ) → spread k 0 m ≡ 0
unfolding spread
spread_zero zero m = refl
spread_zero (suc k) m =
    ap₂ (λ (u v : ℕ). spread k u (m / 2) * 2 + v) (rest_zero (m % 2)) (placed_zero (m % 2))
    ∙ ap (λ (u : ℕ). u * 2 + 0) (spread_zero k (m / 2))

-- a number and its complement have no bit in common
flip_bit : (P g r : ℕ) → r < 2 → g < P → P * 2 - 1 - (g * 2 + r) ≡ (P - 1 - g) * 2 + (1 - r)
flip_bit P g r p h = omega arith

no_both : (r : ℕ) → r < 2 → bit_and r (1 - r) ≡ 0
no_both zero p = refl
no_both (suc zero) p = refl
no_both (suc (suc r)) p = absurd (omega arith)

flipped : (k h : ℕ) → h < 2 ^ k → bit_and h (2 ^ k - 1 - h) ≡ 0
flipped zero h p =
    let z : h ≡ 0 = omega arith in
    ap (λ (n : ℕ). bit_and n (2 ^ 0 - 1 - h)) z ∙ and_zero_l (2 ^ 0 - 1 - h)
flipped (suc k) h p =
    let r : ℕ = h % 2 in
    let g : ℕ = h / 2 in
    let e : h ≡ g * 2 + r = sym (div-add-mod' h 2) in
    let q : g < 2 ^ k = omega (arith, pow-suc 2 k) in
    ap₂ bit_and e (ap₂ (λ (x y : ℕ). x - 1 - y) (pow-suc 2 k) e ∙ flip_bit (2 ^ k) g r (omega arith) q)
    ∙ and_block 1 g (2 ^ k - 1 - g) r (1 - r) (omega arith) (omega arith)
    ∙ ap₂ (λ (x y : ℕ). x * 2 + y) (flipped k g q) (no_both r (omega arith))

-- the turn, over the lowest k bits: the mask AND its negation modulo 2^k is its lowest set bit
Turn : ℕ → ℕ → ℕ → Type 0
Turn k s m = spread k s m ≡ bit_or (s % 2 * bit_and m (2 ^ k - m)) (spread k (s / 2) (bit_and m (m - 1)))

even : (k s g : ℕ) → g < 2 ^ k → 0 < g → Turn k s g → Turn (suc k) s (g * 2 + 0)
unfolding Turn
even k s g h p ih =
    let L : ℕ = bit_and g (2 ^ k - g) in
    let a : 2 ^ suc k - (g * 2 + 0) ≡ (2 ^ k - g) * 2 + 0 = omega (arith, pow-suc 2 k) in
    let b : g * 2 + 0 - 1 ≡ (g - 1) * 2 + 1 = omega arith in
    let low : bit_and (g * 2 + 0) (2 ^ suc k - (g * 2 + 0)) ≡ L * 2 =
    ap (bit_and (g * 2 + 0)) a ∙ and_block 1 g (2 ^ k - g) 0 0 (lit< tt) (lit< tt) ∙ add-zero _
    in
    let off : bit_and (g * 2 + 0) (g * 2 + 0 - 1) ≡ bit_and g (g - 1) * 2 + 0 =
    ap (bit_and (g * 2 + 0)) b ∙ and_block 1 g (g - 1) 0 1 (lit< tt) (lit< tt)
    in
    let y : spread (suc k) (s / 2) (bit_and (g * 2 + 0) (g * 2 + 0 - 1)) ≡ spread k (s / 2) (bit_and g (g - 1)) * 2 + 0 =
    ap (spread (suc k) (s / 2)) off ∙ spread_bit k (s / 2) (bit_and g (g - 1)) 0 (lit< tt)
    in
    let t : s % 2 * bit_and (g * 2 + 0) (2 ^ suc k - (g * 2 + 0)) ≡ s % 2 * L * 2 + 0 =
    ap (λ (x : ℕ). s % 2 * x) low ∙ sym (mul_assoc (s % 2) L 2) ∙ sym (add-zero _)
    in
    spread_bit k s g 0 (lit< tt) ∙ ap (λ (x : ℕ). x * 2 + 0) ih
    ∙ sym (ap₂ bit_or t y ∙ or_block 1 (s % 2 * L) (spread k (s / 2) (bit_and g (g - 1))) 0 0 (lit< tt) (lit< tt))

odd : (k s g : ℕ) → g < 2 ^ k → Turn (suc k) s (g * 2 + 1)
unfolding Turn
odd k s g h =
    let a : 2 ^ suc k - (g * 2 + 1) ≡ (2 ^ k - 1 - g) * 2 + 1 = omega (arith, pow-suc 2 k) in
    let b : g * 2 + 1 - 1 ≡ g * 2 + 0 = omega arith in
    let low : bit_and (g * 2 + 1) (2 ^ suc k - (g * 2 + 1)) ≡ 1 =
    ap (bit_and (g * 2 + 1)) a ∙ and_block 1 g (2 ^ k - 1 - g) 1 1 (lit< tt) (lit< tt)
    ∙ ap (λ (x : ℕ). x * 2 + 1) (flipped k g h)
    in
    let off : bit_and (g * 2 + 1) (g * 2 + 1 - 1) ≡ g * 2 + 0 =
    ap (bit_and (g * 2 + 1)) b ∙ and_block 1 g g 1 0 (lit< tt) (lit< tt) ∙ ap (λ (x : ℕ). x * 2 + 0) (and_self g)
    in
    let y : spread (suc k) (s / 2) (bit_and (g * 2 + 1) (g * 2 + 1 - 1)) ≡ spread k (s / 2) g * 2 + 0 =
    ap (spread (suc k) (s / 2)) off ∙ spread_bit k (s / 2) g 0 (lit< tt)
    in
    let z : s % 2 ≡ 0 * 2 + s % 2 = omega arith in
    let t : s % 2 * bit_and (g * 2 + 1) (2 ^ suc k - (g * 2 + 1)) ≡ 0 * 2 + s % 2 =
    ap (λ (x : ℕ). s % 2 * x) low ∙ mul-one (s % 2) ∙ z
    in
    spread_bit k s g 1 (lit< tt)
    ∙ sym
    (ap₂ bit_or t y
    ∙ or_block 1 0 (spread k (s / 2) g) (s % 2) 0 (omega arith) (lit< tt)
    ∙ ap (λ (x : ℕ). spread k (s / 2) g * 2 + x) (or_zero_r (s % 2)))

by_bit : (k s g r : ℕ) → r < 2 → g * 2 + r < 2 ^ suc k → 0 < g * 2 + r → (0 < g → Turn k s g) → Turn (suc k) s (g * 2 + r)
by_bit k s g zero p h q ih =
    let q' : 0 < g = omega arith in
    even k s g (omega (arith, pow-suc 2 k)) q' (ih q')
by_bit k s g (suc zero) p h q ih = odd k s g (omega (arith, pow-suc 2 k))
by_bit k s g (suc (suc r)) p h q ih = absurd (omega arith)

turn : (k s m : ℕ) → m < 2 ^ k → 0 < m → Turn k s m
turn zero s m h p = absurd (omega arith)
turn (suc k) s m h p =
    subst (λ (x : ℕ). Turn (suc k) s x) (div-add-mod' m 2)
    (by_bit k s (m / 2) (m % 2) (omega arith) (omega arith) (omega arith)
    (λ q. turn k s (m / 2) (omega (arith, pow-suc 2 k)) q))

-- the same in the code's terms, where `negated` is zero minus the mask and `less` the mask minus 1, both modulo 2^64; and with no set bit left
-- nothing is placed
pub spread_turn : (source mask negated less : ℕ) → mask < 2 ^ 64 → negated < 2 ^ 64 → (negated + mask) % 2 ^ 64 ≡ 0 → less < 2 ^ 64
    → (less + 1) % 2 ^ 64 ≡ mask
    → bit_or (bit_and source 1 * bit_and mask negated) (spread 64 (source / 2) (bit_and mask less)) ≡ spread 64 source mask
unfolding Turn
spread_turn source mask negated less h p e q f =
    elim (ℕ_discrete mask 0) [
      | yes z ↦
          let none : (x : ℕ) → bit_and mask x ≡ 0 = λ x. ap (λ (n : ℕ). bit_and n x) z ∙ and_zero_l x in
          ap₂ (λ (x y : ℕ). bit_or (bit_and source 1 * x) (spread 64 (source / 2) y)) (none negated) (none less)
          ∙ ap₂ bit_or (mul-zero (bit_and source 1)) (spread_none 64 (source / 2))
          ∙ or_zero_l 0
          ∙ sym (ap (spread 64 source) z ∙ spread_none 64 source)
      | no ne ↦
          let a : bit_and source 1 ≡ source % 2 = and_mask source 1 in
          let b : negated ≡ 2 ^ 64 - mask = omega arith in
          let c : less ≡ mask - 1 = omega arith in
          ap₂ (λ (x y : ℕ). bit_or (bit_and source 1 * bit_and mask x) (spread 64 (source / 2) (bit_and mask y))) b c
          ∙ ap (λ (x : ℕ). bit_or (x * bit_and mask (2 ^ 64 - mask)) (spread 64 (source / 2) (bit_and mask (mask - 1)))) a
          ∙ sym (turn 64 source mask h (omega arith))
    ]
