-- A split is the smallest index present that reaches, goes over its shares by one index at most, and splits rise. Assumes nothing.
use Prim.Native.Nat.{ℕ, suc, ◌+◌, ◌-◌, ◌*◌, ◌≤◌, ◌<◌}
use native.Mathlib.Omega.{arith}
use native.Mathlib.Nat.{mul-le-mul_left, mul-le-mul_right, mul-add}
use native.Mathlib.Decide.{dec_le, dec_lt}
use mathlib.Core.Logic.{⊎_elim}
use mathlib.Core.Bool.{Bool, true, false, ◌&&◌, not, and-false}
use mathlib.Core.Path.{◌≡◌, refl, ap₂, sym, ◌∙◌}
use mathlib.Core.List.{List}
use lib.ListN.{length}
use lib.Dec.{leb, ltb, eqb}
use borrow.Author.Tests.{lt-ltb, le-ltb, le-leb, lt-leb, ltb-true, leb-true, eq-eqb, ne_eqb, eqb-true}
use Rattle.rules.specs.Sums.{total, sum_where, top}
use Rattle.requests.specs.Order.{at}
use Rattle.requests.specs.Parts.{weight_all, weight_to, weight_on, heaviest_on, reaches, split, IsSplit, part_at}
use Rattle.laws.proofs.Totals.{where_ext, where_all, where_none, where_mono, where_split, top-le}
use Rattle.parts_laws.proofs.Counts.{least_default, least_le, least_has, top_present, Best, best, Cut, cut}

-- what is under x and what is on it make up what is not above it
pub under_plus_on : (f g : ℕ → ℕ) (n x : ℕ) → sum_where (λ p. ltb (f p) x) g n + sum_where (λ p. eqb (f p) x) g n ≡ sum_where (λ p. leb (f p) x) g n
under_plus_on f g n x =
    ap₂ ◌+◌ (where_ext g n _ _ (λ p l. under (f p) (dec_lt (f p) x))) (where_ext g n _ _ (λ p l. on (f p) (dec_le (f p) x) (dec_le x (f p))))
    ∙ where_split g n (λ p. leb (f p) x) (λ p. ltb (f p) x)
  where
    under : (a : ℕ) → Dec (a < x) → ltb a x ≡ (leb a x && ltb a x)
    under a (yes h) = rw (lt-ltb a x h, le-leb a x (omega arith))
    under a (no h) = rw (le-ltb a x (omega arith)) (sym (and-false (leb a x)))

    on : (a : ℕ) → Dec (a ≤ x) → Dec (x ≤ a) → eqb a x ≡ (leb a x && not (ltb a x))
    on a (yes g) (yes h) = rw (eq-eqb a x (omega arith), le-leb a x g, le-ltb a x h)
    on a (yes g) (no h) = rw (ne_eqb a x (λ z. omega arith), le-leb a x g, lt-ltb a x (omega arith))
    on a (no g) (yes h) = rw (ne_eqb a x (λ z. omega arith), lt-leb a x (omega arith))
    on a (no g) (no h) = absurd (omega arith)

-- a sum with a test is at most the sum
pub where_at_most : (g : ℕ → ℕ) (n : ℕ) (t : ℕ → Bool) → sum_where t g n ≤ total g n
where_at_most g n t = omega (arith, where_mono g n t (λ p. true) (λ p l e. refl), where_all g n (λ p. true) (λ p l. refl))

module _ (ix ws : List ℕ) where
  -- all points are at or below the largest index
  to_top : weight_to ix ws (top (at ix) (length ix)) ≡ weight_all ix ws
  unfolding weight_to weight_all
  to_top = where_all (at ws) (length ix) _ (λ p l. le-leb _ _ (top-le (at ix) (length ix) p l))

  -- the weight strictly below an index
  weight_under : ℕ → ℕ
  weight_under x = sum_where (λ p. ltb (at ix p) x) (at ws) (length ix)

  to_is : (x : ℕ) → weight_under x + weight_on ix ws x ≡ weight_to ix ws x
  unfolding weight_to weight_on weight_under
  to_is = under_plus_on (at ix) (at ws) (length ix)

  under_at_most : (x y : ℕ) → ((p : ℕ) → p < length ix → at ix p < x → at ix p ≤ y) → weight_under x ≤ weight_to ix ws y
  unfolding weight_to weight_under
  under_at_most x y h = where_mono (at ws) (length ix) _ _ (λ p l e. le-leb _ _ (h p l (ltb-true (at ix p) x e)))

  under_none : (x : ℕ) → ((p : ℕ) → p < length ix → ltb (at ix p) x ≡ false) → weight_under x ≡ 0
  unfolding weight_under
  under_none x h = where_none (at ws) (length ix) _ h

  -- the weight on an index, present or not
  on_at_most : (x : ℕ) → weight_on ix ws x ≤ heaviest_on ix ws
  unfolding heaviest_on weight_on
  on_at_most x =
      ⊎_elim (λ f. omega (arith, where_none (at ws) (length ix) _ f))
      (λ b. rw (← eqb-true (at ix b.0) x b.1.passes) (top-le (λ p. weight_on ix ws (at ix p)) (length ix) b.0 b.1.inside))
      (best (λ p. eqb (at ix p) x) (at ix) (length ix))

module _ (n : ℕ) (ix ws : List ℕ) where
  -- a split reaches
  pub split_enough : (i : ℕ) → i ≤ n → i * weight_all ix ws ≤ n * weight_to ix ws (split n ix ws i)
  unfolding split reaches
  split_enough i h =
      least_has _ _ _ (λ x. i * weight_all ix ws ≤ n * weight_to ix ws x) (length ix)
      (rw (to_top ix ws) (mul-le-mul_right (weight_all ix ws) h))
      (λ p l e. leb-true _ _ e)

  -- and is the smallest that does
  pub split_first : (i p : ℕ) → p < length ix → i * weight_all ix ws ≤ n * weight_to ix ws (at ix p) → split n ix ws i ≤ at ix p
  unfolding split reaches
  split_first i p l h = least_le _ _ _ (length ix) p l (le-leb _ _ h)

  pub split_present : (i : ℕ) → 0 < length ix → (p : ℕ) × (p < length ix) × (at ix p ≡ split n ix ws i)
  unfolding split
  split_present i h = least_has _ _ _ (λ x. (p : ℕ) × (p < length ix) × (at ix p ≡ x)) (length ix) (top_present (at ix) (length ix) h) (λ p l e. (p, l, refl))

  -- a split is what the request says
  pub split_is : (i : ℕ) → i ≤ n → 0 < length ix → IsSplit n ix ws i (split n ix ws i)
  split_is i h g = record { present = split_present i g; enough = split_enough i h; first = split_first i }

  -- splits rise
  pub split_mono : (i j : ℕ) → i ≤ j → split n ix ws i ≤ split n ix ws j
  unfolding split reaches
  split_mono i j h =
      least_has _ _ _ (λ x. split n ix ws i ≤ x) (length ix) (least_default _ _ _ (length ix))
      (λ p l e. split_first i p l (omega (arith, mul-le-mul_right (weight_all ix ws) h, leb-true (j * weight_all ix ws) (n * weight_to ix ws (at ix p)) e)))

  -- the splits below an index come first
  pub part_cut : (x : ℕ) → Cut (λ i. ltb (split n ix ws (suc i)) x) (n - 1) (part_at n ix ws x)
  unfolding part_at
  part_cut x = cut _ (λ i j h e. lt-ltb (split n ix ws (suc i)) x (omega (arith, split_mono (suc i) (suc j) (omega arith), ltb-true (split n ix ws (suc j)) x e))) (n - 1)

  -- what is strictly below a split does not reach: the largest index there does not
  under_split : (i : ℕ) → n * weight_under ix ws (split n ix ws i) ≤ i * weight_all ix ws
  under_split i = ⊎_elim none some (best (λ p. ltb (at ix p) x) (at ix) (length ix))
    where
      x : ℕ
      x = split n ix ws i

      none : ((p : ℕ) → p < length ix → ltb (at ix p) x ≡ false) → n * weight_under ix ws x ≤ i * weight_all ix ws
      none f = let e : n * weight_under ix ws x ≤ n * 0 = mul-le-mul_left n (omega (arith, under_none ix ws x f)) in omega arith

      some : (b : ℕ) × Best (λ p. ltb (at ix p) x) (at ix) (length ix) b → n * weight_under ix ws x ≤ i * weight_all ix ws
      some b = go (dec_le (i * weight_all ix ws) (n * weight_to ix ws (at ix b.0)))
        where
          less : n * weight_under ix ws x ≤ n * weight_to ix ws (at ix b.0)
          less = mul-le-mul_left n (under_at_most ix ws x (at ix b.0) (λ p l g. b.1.largest p l (lt-ltb _ _ g)))

          go : Dec (i * weight_all ix ws ≤ n * weight_to ix ws (at ix b.0)) → n * weight_under ix ws x ≤ i * weight_all ix ws
          go (yes g) = absurd (omega (arith, split_first i b.0 b.1.inside g, ltb-true (at ix b.0) x b.1.passes))
          go (no g) = omega (arith, less)

  -- so a split goes over its shares by one index at most
  pub split_not_over : (i : ℕ) → n * weight_to ix ws (split n ix ws i) ≤ i * weight_all ix ws + n * heaviest_on ix ws
  split_not_over i =
      let x : ℕ = split n ix ws i in
      let all : weight_to ix ws x ≤ weight_under ix ws x + heaviest_on ix ws = omega (arith, to_is ix ws x, on_at_most ix ws x) in
      omega (arith, mul-add n (weight_under ix ws x) (heaviest_on ix ws), mul-le-mul_left n all, under_split i)

-- two splits of the same number are one
pub split_unique : (n : ℕ) (ix ws : List ℕ) (i x y : ℕ) → IsSplit n ix ws i x → IsSplit n ix ws i y → x ≡ y
split_unique n ix ws i x y s t = omega (arith, half x y s t, half y x t s)
  where
    half : (x y : ℕ) → IsSplit n ix ws i x → IsSplit n ix ws i y → x ≤ y
    half x y s t =
        let o = t.present in
        let e : at ix o.0 ≡ y = o.2 in
        omega (arith, s.first o.0 o.1 (rw e t.enough), e)
