-- The limbs from the top, compared as a tuple, compare the values.
use Prim.Native.Nat.{ℕ, ◌<◌}
use native.Mathlib.Omega.{arith}
use native.Mathlib.Nat.{le_of_lt}
use mathlib.Core.Logic.{◌⊎◌, inl, inr}
use mathlib.Core.Path.{◌≡◌, refl, sym}
use mathlib.Core.Bool.{Bool, true, false}
use lib.Dec.{leb, ltb}
use borrow.Author.Tests.{le-leb, lt-leb, ltb-true, ltb-false}
use Rattle.std.proofs.Common.{Less, Equal, Greater, Some}
use Rattle.std.specs.Cmp.{nat_cmp_is}
use Rattle.std.specs.Ordering.{nat_cmp, is_le, is_some_and, partial_ordering_then}
use Rattle.wide.specs.Value.{value, Limbs}
use Rattle.wide.proofs.Carry.{by_hi, by_mid, by_lo, by_lo_less}

three : (m n : ℕ) → ((m < n) ⊎ (n < m)) ⊎ (m ≡ n)
three m n = go (ltb m n) (ltb n m) refl refl
  where
    go : (s t : Bool) → ltb m n ≡ s → ltb n m ≡ t → ((m < n) ⊎ (n < m)) ⊎ (m ≡ n)
    go true t e f = inl (inl (ltb-true m n e))
    go false true e f = inl (inr (ltb-true n m f))
    go false false e f = inr (omega (arith, ltb-false m n e, ltb-false n m f))

module _ {m n : ℕ} where
  less : m < n → nat_cmp m n ≡ Less
  less h = sym (nat_cmp_is m n Less h)

  greater : n < m → nat_cmp m n ≡ Greater
  greater h = sym (nat_cmp_is m n Greater h)

  equal : m ≡ n → nat_cmp m n ≡ Equal
  equal h = sym (nat_cmp_is m n Equal h)

module _ {a b c x y z : ℕ} (p : Limbs a b c) (q : Limbs x y z) where
  abbrev AsTold : Type 0
  AsTold = is_some_and is_le (partial_ordering_then (partial_ordering_then (Some (nat_cmp a x)) (Some (nat_cmp b y))) (Some (nat_cmp c z))) ≡ leb (value a b c) (value x y z)

  by_lowest : a ≡ x → b ≡ y → ((c < z) ⊎ (z < c)) ⊎ (c ≡ z) → AsTold
  by_lowest e f (inl (inl h)) = rw (equal e, equal f, less h) (sym (le-leb _ _ (by_lo _ _ p e f (le_of_lt h))))
  by_lowest e f (inl (inr h)) = rw (equal e, equal f, greater h) (sym (lt-leb _ _ (by_lo_less _ _ q (sym e) (sym f) h)))
  by_lowest e f (inr g) = rw (equal e, equal f, equal g) (sym (le-leb _ _ (by_lo _ _ p e f (omega arith))))

  by_middle : a ≡ x → ((b < y) ⊎ (y < b)) ⊎ (b ≡ y) → AsTold
  by_middle e (inl (inl h)) = rw (equal e, less h) (sym (le-leb _ _ (le_of_lt (by_mid _ _ p e h))))
  by_middle e (inl (inr h)) = rw (equal e, greater h) (sym (lt-leb _ _ (by_mid _ _ q (sym e) h)))
  by_middle e (inr f) = by_lowest e f (three c z)

  by_highest : ((a < x) ⊎ (x < a)) ⊎ (a ≡ x) → AsTold
  by_highest (inl (inl h)) = rw (less h) (sym (le-leb _ _ (le_of_lt (by_hi _ _ p h))))
  by_highest (inl (inr h)) = rw (greater h) (sym (lt-leb _ _ (by_hi _ _ q h)))
  by_highest (inr e) = by_middle e (three b y)

  pub as_told : AsTold
  as_told = by_highest (three a x)
