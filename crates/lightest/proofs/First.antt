-- Laws of the first of the lightest among the leaves of a range. Assumes nothing.
use Prim.Native.Nat.{ℕ, ◌+◌, ◌-◌, ◌*◌, ◌≤◌, ◌<◌}
use native.Mathlib.Omega.{arith}
use native.Mathlib.Nat.{le_refl, le_trans, lt_of_lt_of_le, le_antisymm}
use mathlib.Core.Bool.{Bool, true, false}
use mathlib.Core.Logic.{◌⊎◌, inl, inr, ⊎_elim}
use mathlib.Core.Path.{◌≡◌, refl}
use mathlib.Core.List.{List}
use lib.Dec.{ltb, eqb}
use borrow.Author.Tests.{ltb-true, ltb-false, lt-ltb, le-ltb, eqb-true, eqb-false}
use Rattle.rules.specs.Sums.{pick}
use Rattle.lightest.specs.Tree.{part_at, lighter_of, Lightest, Raised}

pub lt_or_le : (a b : ℕ) → (a < b) ⊎ (b ≤ a)
lt_or_le a b = go (ltb a b) refl
  where
    go : (t : Bool) → ltb a b ≡ t → (a < b) ⊎ (b ≤ a)
    go true e = inl (ltb-true a b e)
    go false e = inr (ltb-false a b e)

pub same_or_other : (a b : ℕ) → (a ≡ b) ⊎ (a ≡ b → ⊥)
same_or_other a b = go (eqb a b) refl
  where
    go : (t : Bool) → eqb a b ≡ t → (a ≡ b) ⊎ (a ≡ b → ⊥)
    go true e = inl (eqb-true a b e)
    go false e = inr (eqb-false a b e)

module _ {parts : List ℕ} {leaves : ℕ} where
  -- a leaf alone
  pub alone : (n : ℕ) → leaves ≤ n → Lightest parts leaves n (n + 1) (n - leaves)
  alone n h =
      record {
        low = omega arith;
        high = omega arith;
        least = λ i l u. let e : n - leaves ≡ i = omega arith in rw e (le_refl _);
        first = λ i l u. absurd (omega arith);
      }

  -- of two ranges that meet
  pub joined : {from mid to a b : ℕ} → Lightest parts leaves from mid a → Lightest parts leaves mid to b → Lightest parts leaves from to (lighter_of parts a b)
  unfolding lighter_of pick
  joined {from} {mid} {to} {a} {b} p q = ⊎_elim second first (lt_or_le (part_at parts b) (part_at parts a))
    where
      second : part_at parts b < part_at parts a → Lightest parts leaves from to (pick (ltb (part_at parts b) (part_at parts a)) b a)
      second h =
          rw (lt-ltb _ _ h)
          (record {
            low = omega (arith, p.low, p.high, q.low);
            high = q.high;
            least = λ i l u. ⊎_elim (λ m. omega (arith, p.least i l m)) (λ m. q.least i m u) (lt_or_le (leaves + i) mid);
            first = λ i l u. ⊎_elim (λ m. omega (arith, p.least i l m)) (λ m. omega (arith, q.first i m u)) (lt_or_le (leaves + i) mid);
          })

      first : part_at parts a ≤ part_at parts b → Lightest parts leaves from to (pick (ltb (part_at parts b) (part_at parts a)) b a)
      first h =
          rw (le-ltb _ _ h)
          (record {
            low = p.low;
            high = omega (arith, p.high, q.low, q.high);
            least = λ i l u. ⊎_elim (p.least i l) (λ m. omega (arith, q.least i m u)) (lt_or_le (leaves + i) mid);
            first = p.first;
          })

  -- of a range that has r too, within
  pub within : {from to from' to' r : ℕ} → Lightest parts leaves from to r → from ≤ from' → to' ≤ to → from' ≤ leaves + r → leaves + r < to'
      → Lightest parts leaves from' to' r
  within p l u low high =
      record { low = low; high = high; least = λ i m k. p.least i (le_trans l m) (lt_of_lt_of_le k u); first = λ i m k. p.first i (le_trans l m) k }

  -- there is one
  pub one_first : {from to a b : ℕ} → Lightest parts leaves from to a → Lightest parts leaves from to b → a ≡ b
  one_first {from} {to} {a} {b} p q = le_antisymm (not_above p q) (not_above q p)
    where
      not_above : {x y : ℕ} → Lightest parts leaves from to x → Lightest parts leaves from to y → x ≤ y
      not_above {x} {y} p q = ⊎_elim (λ h. absurd (omega (arith, p.first y q.low h, q.least x p.low p.high))) (λ h. h) (lt_or_le y x)

-- who is the first of the lightest stays so where another is raised
pub stays : {leaves id from to r : ℕ} {before parts : List ℕ} → Raised leaves id before parts → to ≤ 2 * leaves
    → Lightest before leaves from to r → (r ≡ id → ⊥) → Lightest parts leaves from to r
stays {leaves} {id} {from} {to} {r} {before} {parts} w u p other =
    record {
      low = p.low;
      high = p.high;
      least = λ i l m. omega (arith, same, p.least i l m, no_lighter i (omega arith));
      first = λ i l m. omega (arith, same, p.first i l m, no_lighter i (omega (arith, p.high)));
    }
  where
    same : part_at parts r ≡ part_at before r
    same = w.others r (omega (arith, p.high)) other

    no_lighter : (i : ℕ) → i < leaves → part_at before i ≤ part_at parts i
    no_lighter i l = ⊎_elim (λ (q : i ≡ id). rw q w.higher) (λ (d : i ≡ id → ⊥). omega (arith, w.others i l d)) (same_or_other i id)
