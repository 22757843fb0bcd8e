-- The two sides of demand 3's bounds, each as a number times a power: what both sides have in common is taken away.
use Prim.Native.Nat.{ℕ, zero, suc, ◌+◌, ◌-◌, ◌*◌, ◌^◌, ◌%◌, ◌≤◌, ◌<◌}
use native.Mathlib.Omega.{arith}
use native.Mathlib.Nat.{mul-le-mul, mul-le-mul_left, pow-le-pow_left, pow-le-pow_right, pow-suc, mul_assoc, mul-mul-mul_comm, le_trans, le_of_lt, lt_of_le_of_lt}
use native.Mathlib.Numerals.{add-one}
use mathlib.Core.Path.{◌≡◌, refl, sym, ap, subst}
use lib.Dec.{leb, lit≤, lit<}
use lib.Pow.{shl_exact}
use borrow.Author.Tests.{le-leb, leb-true}
use Rattle.rules.specs.Refusals.{top_depth}
use Rattle.requests.specs.Replay.{upper, lower}
use Rattle.halving_laws.proofs.Blocks.{same_test}
use Rattle.wide.specs.Value.{room}

-- such a side has room
pub fits : {x s k : ℕ} → x < 2 ^ 49 → s ≤ 200 → k ≤ top_depth → x * s ^ k < room
unfolding room
fits {x} {s} {k} h l d = lt_of_le_of_lt (mul-le-mul (le_of_lt h) (le_trans (pow-le-pow_left l k) (pow-le-pow_right (lit< tt) d))) (lit< tt)

-- two comparisons that say the same
same_order : (a b c d : ℕ) → (a ≤ b → c ≤ d) → (c ≤ d → a ≤ b) → leb a b ≡ leb c d
same_order a b c d f g = same_test (leb a b) (leb c d) (λ h. le-leb c d (f (leb-true a b h))) (λ h. le-leb a b (g (leb-true c d h)))

-- the upper bound, p being 200 ^ k and q 101 ^ k
module _ (p q w t m : ℕ) where
  upper_clear : 99 * w ≤ 200 * m → 99 * p * w ≤ 99 * q * t + 200 * p * m
  upper_clear h = omega (arith, mul-le-mul_left p h)

  upper_sides : 200 * m < 99 * w → leb ((99 * w - 200 * m) * p) (99 * t * q) ≡ leb (99 * p * w) (99 * q * t + 200 * p * m)
  upper_sides h = same_order ((99 * w - 200 * m) * p) (99 * t * q) (99 * p * w) (99 * q * t + 200 * p * m) (λ l. omega (arith, rest)) (λ l. omega (arith, rest))
    where
      rest : (99 * w - 200 * m) * p + 200 * (p * m) ≡ 99 * (p * w)
      rest = let e : (99 * w - 200 * m) + 200 * m ≡ 99 * w = omega arith in omega (arith, ap (λ (n : ℕ). n * p) e)

  lower_sides : leb (101 * t * q) ((101 * w + 200 * m) * p) ≡ leb (101 * q * t) (101 * p * w + 200 * p * m)
  lower_sides = same_order (101 * t * q) ((101 * w + 200 * m) * p) (101 * q * t) (101 * p * w + 200 * p * m) (λ l. omega arith) (λ l. omega arith)

one_more : (s k : ℕ) → s ^ (k + 1) ≡ s * s ^ k
one_more s k = rw (add-one, pow-suc) (omega arith)

module _ (k w t m : ℕ) where
  pub upper_holds : 99 * w ≤ 200 * m → 99 * 200 ^ k * w ≤ 99 * 101 ^ k * t + 200 ^ (k + 1) * m
  upper_holds h = rw (one_more 200 k) (upper_clear (200 ^ k) (101 ^ k) w t m h)

  pub upper_is : 200 * m < 99 * w → leb ((99 * w - 200 * m) * 200 ^ k) (99 * t * 101 ^ k) ≡ upper k w t m
  upper_is h = rw (one_more 200 k) (upper_sides (200 ^ k) (101 ^ k) w t m h)

  pub lower_is : leb (101 * t * 99 ^ k) ((101 * w + 200 * m) * 200 ^ k) ≡ lower k w t m
  lower_is = rw (one_more 200 k) (lower_sides (200 ^ k) (99 ^ k) w t m)

two_hundred : (k : ℕ) → 2 ^ k * 100 ^ k ≡ 200 ^ k
two_hundred zero = refl
two_hundred (suc k) = rw (pow-suc 2 k, pow-suc 100 k, pow-suc 200 k, mul-mul-mul_comm (2 ^ k) 2 (100 ^ k) 100, two_hundred k) refl

-- a bound that holds with 100 in place of 101, or of 99, holds: so k doublings can answer, and nothing is lost in the shift
module _ {k x y : ℕ} (d : k ≤ top_depth) where
  pub upper_doubled : x < 2 ^ 49 → x * 2 ^ k % 2 ^ 64 ≤ y → x * 200 ^ k ≤ y * 101 ^ k
  upper_doubled l h = rw (sym (two_hundred k), sym (mul_assoc x (2 ^ k) (100 ^ k))) (mul-le-mul (subst (λ (n : ℕ). n ≤ y) (shl_exact 49 k 64 l (omega (arith, d))) h) (pow-le-pow_left (lit≤ tt) k))

  pub lower_doubled : y < 2 ^ 49 → x ≤ y * 2 ^ k % 2 ^ 64 → x * 99 ^ k ≤ y * 200 ^ k
  lower_doubled l h = rw (sym (two_hundred k), sym (mul_assoc y (2 ^ k) (100 ^ k))) (mul-le-mul (subst (λ (n : ℕ). x ≤ n) (shl_exact 49 k 64 l (omega (arith, d))) h) (pow-le-pow_left (lit≤ tt) k))
