-- Where nodes stand: each at one height, with two below it one level lower, and a leaf below one node of each height. Assumes nothing.
use Prim.Native.Nat.{ℕ, zero, suc, ◌+◌, ◌-◌, ◌*◌, ◌/◌, ◌^◌, ◌≤◌, ◌<◌}
use native.Mathlib.Omega.{arith}
use native.Mathlib.Nat.{pow-succ', mul-le-mul_left, mul-le-mul_right, lt_of_mul-lt-mul_right, lt_of_le_of_lt, le_antisymm}
use mathlib.Core.Logic.{⊎_elim}
use mathlib.Core.Path.{◌≡◌, ap, ◌∙◌}
use lib.Pow.{pow_pos, pow_mono, pow-add}
use Rattle.lightest.specs.Tree.{Stands}
use Rattle.lightest.proofs.First.{lt_or_le, same_or_other}

-- one level lower there are twice as many
pub twice : (n h : ℕ) → n * 2 ^ suc h ≡ 2 * n * 2 ^ h
twice n h = ap (λ (x : ℕ). n * x) (pow-succ' 2 h) ∙ omega arith

module _ {leaves h n : ℕ} (s : Stands leaves (suc h) n) where
  pub left_below : Stands leaves h (2 * n)
  left_below = record { low = omega (arith, s.low, twice n h); high = omega (arith, s.high, twice (n + 1) h) }

  pub right_below : Stands leaves h (2 * n + 1)
  right_below = record { low = omega (arith, s.low, twice n h); high = omega (arith, s.high, twice (n + 1) h) }

  -- above the leaves the numbers are lower
  pub inner : n < leaves
  inner = omega (arith, s.high, twice (n + 1) h, mul-le-mul_left (n + 1) (pow_pos h))

-- place 0 is no node
pub not-zero : {leaves h n : ℕ} → Stands leaves h n → 0 < leaves → 0 < n
not-zero {leaves} {h} {n} s p = ⊎_elim (λ (e : n ≡ 0). absurd (none (rw e at s))) (λ (d : n ≡ 0 → ⊥). omega arith) (same_or_other n 0)
  where
    none : Stands leaves h 0 → ⊥
    none t = omega (arith, t.low)

-- a number stands at one height
pub one_height : {leaves h g n : ℕ} → Stands leaves h n → Stands leaves g n → h < g → ⊥
one_height {leaves} {h} {g} {n} s t l = omega (arith, s.low, t.high, twice n h, mul-le-mul_left n (pow_mono l), pow_pos g)

-- and each number at some
pub height : (depth n : ℕ) → 0 < n → n < 2 * 2 ^ depth → (h : ℕ) × Stands (2 ^ depth) h n
height zero n p l = (0, record { low = omega arith; high = omega arith })
height (suc depth) n p l = ⊎_elim (λ (m : n < 2 ^ suc depth). higher (height depth n p (omega arith))) leaf (lt_or_le n (2 ^ suc depth))
  where
    higher : (h : ℕ) × Stands (2 ^ depth) h n → (h : ℕ) × Stands (2 ^ suc depth) h n
    higher (h, s) = (suc h, record { low = omega (arith, s.low, twice n h); high = omega (arith, s.high, twice (n + 1) h) })

    leaf : 2 ^ suc depth ≤ n → (h : ℕ) × Stands (2 ^ suc depth) h n
    leaf m = (0, record { low = omega arith; high = omega arith })

-- leaf `at` is below node n, h levels lower
pub record Below (at h n : ℕ) : Type 0 where
  pub low : n * 2 ^ h ≤ at
  pub high : at < (n + 1) * 2 ^ h

-- one level higher
pub up : {at h n : ℕ} → Below at h n → Below at (suc h) (n / 2)
up {at} {h} {n} b =
    record {
      low = omega (arith, b.low, twice (n / 2) h, mul-le-mul_right (2 ^ h) under);
      high = omega (arith, b.high, twice (n / 2 + 1) h, mul-le-mul_right (2 ^ h) over);
    }
  where
    under : 2 * (n / 2) ≤ n
    under = omega arith

    over : n + 1 ≤ 2 * (n / 2 + 1)
    over = omega arith

-- below one node of a height
pub one_above : {at h n m : ℕ} → Below at h n → Below at h m → n ≡ m
one_above {at} {h} b c = le_antisymm (at_most b c) (at_most c b)
  where
    at_most : {x y : ℕ} → Below at h x → Below at h y → x ≤ y
    at_most {x} {y} b c = let l : x < y + 1 = lt_of_mul-lt-mul_right (2 ^ h) (lt_of_le_of_lt b.low c.high) in omega arith

-- whose leaves are below the node above it
pub nested : {at h g n m : ℕ} → Below at h n → Below at g m → h ≤ g → (m * 2 ^ g ≤ n * 2 ^ h) × ((n + 1) * 2 ^ h ≤ (m + 1) * 2 ^ g)
nested {at} {h} {g} {n} {m} b c l = (omega (arith, split m, mul-le-mul_right (2 ^ h) low), omega (arith, split (m + 1), mul-le-mul_right (2 ^ h) high))
  where
    few : ℕ
    few = 2 ^ (g - h)

    split : (x : ℕ) → x * 2 ^ g ≡ x * few * 2 ^ h
    split x = let e : g ≡ g - h + h = omega arith in ap (λ (k : ℕ). x * 2 ^ k) e ∙ ap (λ (p : ℕ). x * p) (pow-add 2 (g - h) h) ∙ omega arith

    low : m * few ≤ n
    low = let k : m * few < n + 1 = lt_of_mul-lt-mul_right (2 ^ h) (omega (arith, split m, b.high, c.low)) in omega arith

    high : n + 1 ≤ (m + 1) * few
    high = let k : n < (m + 1) * few = lt_of_mul-lt-mul_right (2 ^ h) (omega (arith, split (m + 1), b.low, c.high)) in omega arith

-- a node that a leaf is below stands in the tree
pub stands_above : {leaves at h n : ℕ} (depth : ℕ) → leaves ≡ 2 ^ depth → Below at h n → 0 < n → leaves ≤ at → at < 2 * leaves → Stands leaves h n
stands_above {leaves} {at} {h} {n} depth e b p low high = let k = nested b root low_enough in record { low = omega (arith, e, k.0); high = omega (arith, e, k.1) }
  where
    low_enough : h ≤ depth
    low_enough = ⊎_elim (λ (l : depth < h). absurd (omega (arith, e, b.low, pow_mono l, mul-le-mul_right (2 ^ h) p))) (λ (l : h ≤ depth). l) (lt_or_le depth h)

    root : Below at depth 1
    root = record { low = omega (arith, e); high = omega (arith, e) }
