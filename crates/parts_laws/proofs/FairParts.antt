-- Parts are fair: n·w ≤ T + n·c for the weight w of each, they add up to T, and they do not fall along the curve. Assumes nothing.
use Prim.Native.Nat.{ℕ, zero, suc, ◌+◌, ◌-◌, ◌*◌, ◌≤◌, ◌<◌}
use native.Mathlib.Omega.{arith}
use native.Mathlib.Nat.{mul-le-mul_left, mul-le-mul_right, mul-add, suc-mul, zero-mul}
use native.Mathlib.Decide.{dec_le, dec_lt}
use mathlib.Core.Path.{◌≡◌, ap, sym, ◌∙◌}
use mathlib.Core.List.{List}
use lib.ListN.{length}
use lib.Dec.{leb, ltb, eqb}
use borrow.Author.Tests.{lt-ltb, le-ltb, le-leb, lt-leb, ltb-true, ltb-false, ne_eqb}
use Rattle.rules.specs.Sums.{pick, total, sum_where}
use Rattle.requests.specs.Order.{at}
use Rattle.requests.specs.Parts.{weight_all, weight_to, heaviest_on, split, part_at, parts_of, weight_in, FairParts}
use Rattle.laws.proofs.Totals.{total_ext, total_swap, total-one, where_ext, where_none, where_mono}
use Rattle.laws.proofs.Lists.{get_or_list}
use Rattle.parts_laws.proofs.Splits.{where_at_most, under_plus_on, split_enough, split_not_over, part_cut}

module _ (n : ℕ) (ix ws : List ℕ) where
  -- the part of a point
  abbrev part : ℕ → ℕ
  part p = part_at n ix ws (at ix p)

  -- the weight of the parts below k, of part k, and of both
  before : ℕ → ℕ
  before k = sum_where (λ p. ltb (part p) k) (at ws) (length ix)

  with_it : ℕ → ℕ
  with_it k = sum_where (λ p. leb (part p) k) (at ws) (length ix)

  alone : ℕ → ℕ
  alone k = sum_where (λ p. eqb (part p) k) (at ws) (length ix)

  together : (k : ℕ) → before k + alone k ≡ with_it k
  unfolding before alone with_it
  together = under_plus_on part (at ws) (length ix)

  -- the parts up to k are the points at or below split k + 1
  up_to : (k : ℕ) → k < n - 1 → with_it k ≡ weight_to ix ws (split n ix ws (suc k))
  unfolding with_it weight_to
  up_to k h = where_ext (at ws) (length ix) _ _ (λ p l. same p (dec_le (part p) k))
    where
      same : (p : ℕ) → Dec (part p ≤ k) → leb (part p) k ≡ leb (at ix p) (split n ix ws (suc k))
      same p (yes g) = le-leb (part p) k g ∙ sym (le-leb _ _ (ltb-false (split n ix ws (suc k)) (at ix p) ((part_cut n ix ws (at ix p)).fail k g h)))
      same p (no g) = lt-leb (part p) k (omega arith) ∙ sym (lt-leb _ _ (ltb-true (split n ix ws (suc k)) (at ix p) ((part_cut n ix ws (at ix p)).pass k (omega arith))))

  -- and the parts below k + 1
  before_next : (k : ℕ) → before (suc k) ≡ with_it k
  unfolding before with_it
  before_next k = where_ext (at ws) (length ix) _ _ (λ p l. same (part p) (dec_le (part p) k))
    where
      same : (a : ℕ) → Dec (a ≤ k) → ltb a (suc k) ≡ leb a k
      same a (yes g) = lt-ltb a (suc k) (omega arith) ∙ sym (le-leb a k g)
      same a (no g) = le-ltb a (suc k) (omega arith) ∙ sym (lt-leb a k (omega arith))

  with_it_at_most : (k : ℕ) → with_it k ≤ weight_all ix ws
  unfolding with_it weight_all
  with_it_at_most k = where_at_most (at ws) (length ix) _

  -- they have at most k + 1 shares and one index more
  upper : (k : ℕ) → n * with_it k ≤ suc k * weight_all ix ws + n * heaviest_on ix ws
  upper k = go (dec_lt k (n - 1))
    where
      go : Dec (k < n - 1) → n * with_it k ≤ suc k * weight_all ix ws + n * heaviest_on ix ws
      go (yes h) = rw (up_to k h) (split_not_over n ix ws (suc k))
      go (no h) =
          let g : n ≤ suc k = omega arith in
          omega (arith, mul-le-mul_left n (with_it_at_most k), mul-le-mul_right (weight_all ix ws) g)

  -- and at least k + 1
  lower : (k : ℕ) → k < n → k * weight_all ix ws ≤ n * before k
  lower zero h = omega (arith, zero-mul (weight_all ix ws))
  lower (suc k) h = rw (before_next k, up_to k (omega arith)) (split_enough n ix ws (suc k) (omega arith))

  part_bound : (p : ℕ) → part p ≤ n - 1
  part_bound p = (part_cut n ix ws (at ix p)).within

  none_past : (k : ℕ) → 0 < n → n ≤ k → alone k ≡ 0
  unfolding alone
  none_past k h g = where_none (at ws) (length ix) _ (λ p l. ne_eqb (part p) k (λ z. omega (arith, part_bound p)))

  alone_bound : (k : ℕ) → n * alone k ≤ weight_all ix ws + n * heaviest_on ix ws
  alone_bound k = go (dec_lt k n) (dec_le n 0)
    where
      go : Dec (k < n) → Dec (n ≤ 0) → n * alone k ≤ weight_all ix ws + n * heaviest_on ix ws
      go (yes h) d =
          let e : n * before k + n * alone k ≡ n * with_it k = sym (mul-add n (before k) (alone k)) ∙ ap (λ (z : ℕ). n * z) (together k) in
          omega (arith, e, lower k h, upper k, suc-mul k (weight_all ix ws))
      go (no h) (yes d) = let z : n ≡ 0 = omega arith in rw z (omega (arith, zero-mul (alone k)))
      go (no h) (no d) = let e : n * alone k ≤ n * 0 = mul-le-mul_left n (omega (arith, none_past k (omega arith) (omega arith))) in omega arith

  -- the parts' list says each point's part
  said : (p : ℕ) → p < length ix → at (parts_of n ix ws) p ≡ part p
  unfolding parts_of
  said p l = get_or_list (λ p. part_at n ix ws (at ix p)) (length ix) p 0 l

  weight_in_lem : (k : ℕ) → weight_in ix ws (parts_of n ix ws) k ≡ alone k
  unfolding weight_in alone
  weight_in_lem k = where_ext (at ws) (length ix) _ _ (λ p l. ap (λ (z : ℕ). eqb z k) (said p l))

  sum_up : 0 < n → total alone n ≡ weight_all ix ws
  unfolding alone weight_all
  sum_up h = total_swap (λ k p. pick (eqb (part p) k) (at ws p) 0) n (length ix) ∙ total_ext _ _ (length ix) (λ p l. total-one (part p) (at ws p) n (omega (arith, part_bound p)))

  -- a higher index has no lower part
  part_rises : (x y : ℕ) → x ≤ y → part_at n ix ws x ≤ part_at n ix ws y
  unfolding part_at
  part_rises x y h = where_mono (λ _. 1) (n - 1) _ _ (λ i l e. lt-ltb (split n ix ws (suc i)) y (omega (arith, ltb-true (split n ix ws (suc i)) x e)))

  pub fair_parts : 0 < n → FairParts n ix ws (parts_of n ix ws)
  fair_parts h = record {
    bound = λ k. rw (weight_in_lem k) (alone_bound k);
    adds_up = total_ext _ _ n (λ k l. weight_in_lem k) ∙ sum_up h;
    below = λ p l. omega (arith, said p l, part_bound p);
    rising = λ p q l m g. omega (arith, said p l, said q m, part_rises (at ix p) (at ix q) g);
    shared = λ p q l m e. said p l ∙ ap (part_at n ix ws) e ∙ sym (said q m);
  }
