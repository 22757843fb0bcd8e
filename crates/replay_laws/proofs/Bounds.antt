-- A lighter part keeps to the upper bound where a heavier one does, and a heavier to the lower where a lighter does: so the heaviest part and
-- the lightest answer for all.
use Prim.Native.Nat.{ℕ, suc, ◌+◌, ◌*◌, ◌^◌, ◌≤◌, ◌<◌}
use native.Mathlib.Omega.{arith}
use native.Mathlib.Nat.{mul-le-mul_left}
use mathlib.Core.Bool.{Bool, true, false, not, ◌&&◌, ◌||◌}
use mathlib.Core.Path.{◌≡◌, refl, ap, ap₂}
use mathlib.Core.List.{List, [], ◌∷◌}
use lib.ListN.{length}
use borrow.Author.Tests.{le-leb, leb-true, not-false}
use Rattle.rules.specs.Sums.{any}
use Rattle.rules.specs.Demands.{Balanced}
use Rattle.requests.specs.Order.{at, numbers}
use Rattle.requests.specs.Replay.{upper, lower, some_broken}
use Rattle.laws.proofs.Any.{any_at, none, none_at}
use Rattle.laws.proofs.Lists.{length_list, get_or_list}
use Rattle.halving_laws.proofs.Blocks.{both}

-- tests that say the same of each element
any_ext : (p q : ℕ → Bool) (xs : List ℕ) → ((i : ℕ) → i < length xs → p (at xs i) ≡ q (at xs i)) → any p xs ≡ any q xs
unfolding any
any_ext p q [] e = refl
any_ext p q (x ∷ xs) e = ap₂ (λ (a b : Bool). a || b) (e 0 (omega arith)) (any_ext p q xs (λ i l. e (suc i) (omega arith)))

and-false : (t : Bool) → not (t && false) ≡ true
and-false true = refl
and-false false = refl

module _ (k T M : ℕ) {x y : ℕ} (h : y ≤ x) where
  lighter : upper k x T M ≡ true → upper k y T M ≡ true
  lighter u = le-leb _ _ (at_most (leb-true _ _ u))
    where
      at_most : 99 * 200 ^ k * x ≤ 99 * 101 ^ k * T + 200 ^ (k + 1) * M → 99 * 200 ^ k * y ≤ 99 * 101 ^ k * T + 200 ^ (k + 1) * M
      at_most u = omega (arith, mul-le-mul_left (99 * 200 ^ k) h)

  heavier : lower k y T M ≡ true → lower k x T M ≡ true
  heavier l = le-leb _ _ (at_least (leb-true _ _ l))
    where
      at_least : 101 * 99 ^ k * T ≤ 101 * 200 ^ k * y + 200 ^ (k + 1) * M → 101 * 99 ^ k * T ≤ 101 * 200 ^ k * x + 200 ^ (k + 1) * M
      at_least l = omega (arith, mul-le-mul_left (101 * 200 ^ k) h)

module _ (k : ℕ) (w : ℕ → ℕ) (T M : ℕ) where
  number_at : (i : ℕ) → i < 2 ^ k → at (numbers (2 ^ k)) i ≡ i
  number_at i l = get_or_list (λ p. p) (2 ^ k) i 0 l

  -- where no part breaks a bound
  pub none_broken : ((i : ℕ) → i < 2 ^ k → (upper k (w i) T M ≡ true) × (lower k (w i) T M ≡ true)) → some_broken k w T M ≡ false
  unfolding some_broken
  none_broken f = none _ 0 (numbers (2 ^ k)) (λ i l. let q : i < 2 ^ k = rw (length_list (λ p. p) (2 ^ k)) at l in rw (number_at i q, (f i q).0, (f i q).1))

  pub all_kept : some_broken k w T M ≡ false → (i : ℕ) → i < 2 ^ k → Balanced k (w i) T M
  unfolding some_broken
  all_kept e i l =
      let kept = not-false _ (rw (number_at i l) at (none_at (λ i. not (upper k (w i) T M && lower k (w i) T M)) 0 (numbers (2 ^ k)) e i (rw (length_list (λ p. p) (2 ^ k)) l))) in
      let p = both (upper k (w i) T M) (lower k (w i) T M) kept in
      record { upper = leb-true _ _ p.0; lower = leb-true _ _ p.1 }

  -- where one does
  some_broken_lem : (i : ℕ) → i < 2 ^ k → not (upper k (w i) T M && lower k (w i) T M) ≡ true → some_broken k w T M ≡ true
  unfolding some_broken
  some_broken_lem i l e = any_at (λ i. not (upper k (w i) T M && lower k (w i) T M)) 0 (numbers (2 ^ k)) i (rw (length_list (λ p. p) (2 ^ k)) l) (rw (number_at i l) e)

  -- of a heaviest part and a lightest one
  module _ {most least : ℕ} (a : most < 2 ^ k) (b : least < 2 ^ k) (top : (i : ℕ) → i < 2 ^ k → w i ≤ w most) (bottom : (i : ℕ) → i < 2 ^ k → w least ≤ w i) where
    pub answer_for_all : some_broken k w T M ≡ not (upper k (w most) T M && lower k (w least) T M)
    answer_for_all = go (upper k (w most) T M) (lower k (w least) T M) refl refl
      where
        go : (u l : Bool) → upper k (w most) T M ≡ u → lower k (w least) T M ≡ l → some_broken k w T M ≡ not (u && l)
        go true true p q = none_broken (λ i l. (lighter k T M (top i l) p, heavier k T M (bottom i l) q))
        go true false p q = some_broken_lem least b (rw q (and-false (upper k (w least) T M)))
        go false l p q = some_broken_lem most a (rw p)

-- the same of parts of the same weights
pub broken_ext : (k : ℕ) (w v : ℕ → ℕ) (T M : ℕ) → ((i : ℕ) → i < 2 ^ k → w i ≡ v i) → some_broken k w T M ≡ some_broken k v T M
unfolding some_broken
broken_ext k w v T M e =
    any_ext (λ i. not (upper k (w i) T M && lower k (w i) T M)) (λ i. not (upper k (v i) T M && lower k (v i) T M)) (numbers (2 ^ k))
    (λ i l. let q : i < 2 ^ k = rw (length_list (λ p. p) (2 ^ k)) at l in rw (get_or_list (λ p. p) (2 ^ k) i 0 q) (ap (λ (x : ℕ). not (upper k x T M && lower k x T M)) (e i q)))
