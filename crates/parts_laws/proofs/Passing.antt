-- The parts of points, worked out along their order: at a new index, the splits that the weight passed reaches are those below it.
-- Assumes nothing.
use Prim.Native.Nat.{ℕ, suc, ◌+◌, ◌-◌, ◌*◌, ◌≤◌, ◌<◌}
use native.Mathlib.Omega.{arith}
use native.Mathlib.Nat.{mul-le-mul_left}
use native.Mathlib.Decide.{dec_lt, ℕ_discrete}
use mathlib.Core.Bool.{true, false}
use mathlib.Core.Path.{◌≡◌, refl, ap, sym, ◌∙◌}
use mathlib.Core.List.{List}
use lib.ListN.{length, set, length-set}
use lib.Seq.{get_or-set_same, get_or-set_other, ext_get_or}
use lib.Dec.{leb, ltb}
use borrow.Author.Tests.{lt-ltb, le-ltb, le-leb, ltb-true, leb-true}
use Rattle.rules.specs.Sums.{pick, total, sum_where}
use Rattle.rules.specs.Refusals.{top_weight}
use Rattle.requests.specs.Order.{at, order_of}
use Rattle.requests.specs.Parts.{weight_all, weight_to, split, part_at, parts_of}
use Rattle.laws.proofs.Totals.{total_ext, total-zero, total_split, total_more, total_le, where_mono}
use Rattle.laws.proofs.Lists.{length_list, get_or_list}
use Rattle.parts_laws.proofs.Places.{order_places, order_has, order_below, order_rises}
use Rattle.parts_laws.proofs.Counts.{count_is}
use Rattle.parts_laws.proofs.Splits.{split_enough, split_first, split_present, part_cut}
use Rattle.parts_laws.specs.Accepted.{Accepted}
use Rattle.parts_laws.specs.Passing.{top_all, Advanced}

-- the first j terms of a sum, as those that pass a test
first_terms : (g : ℕ → ℕ) (j n : ℕ) → j ≤ n → sum_where (λ i. ltb i j) g n ≡ total g j
unfolding pick
first_terms g j n h =
    let e : n ≡ j + (n - j) = omega arith in
    ap (total _) e
    ∙ total_split (λ i. pick (ltb i j) (g i) 0) j (n - j)
    ∙ omega (
      arith,
      total_ext (λ i. pick (ltb i j) (g i) 0) g j (λ i l. rw (lt-ltb i j l)),
      total_ext (λ i. pick (ltb (j + i) j) (g (j + i)) 0) (λ i. 0) (n - j) (λ i l. rw (le-ltb (j + i) j (omega arith))),
      total-zero (n - j),
    )

-- THE PASS

module _ (n : ℕ) (ix ws : List ℕ) where
  -- the point at a place of the order
  abbrev point : ℕ → ℕ
  point i = at (order_of ix) i

  -- what is known at place j: the weight passed, and the part of the last index
  pub record Passed (parts : List ℕ) (sum k last j : ℕ) : Type 0 where
    pub sum_is : sum ≡ total (λ i. at ws (point i)) j
    pub part_is : k ≡ part_at n ix ws last
    pub last_is : last ≡ at ix (point (j - 1))
    pub long : length parts ≡ length ix
    pub done : (i : ℕ) → i < j → at parts (point i) ≡ part_at n ix ws (at ix (point i))

  -- the part of an index by the splits below it
  cut_is : (x r : ℕ) → r ≤ n - 1 → ((i : ℕ) → i < r → ltb (split n ix ws (suc i)) x ≡ true) → ((i : ℕ) → r ≤ i → i < n - 1 → ltb (split n ix ws (suc i)) x ≡ false)
      → part_at n ix ws x ≡ r
  unfolding part_at
  cut_is x r h f g = count_is _ r (n - 1) h f g

  -- no split lies below the first point
  first_part : 0 < length ix → part_at n ix ws (at ix (point 0)) ≡ 0
  first_part h = cut_is (at ix (point 0)) 0 (omega arith) (λ i l. absurd (omega arith)) (λ i a l. le-ltb _ _ (low (suc i)))
    where
      low : (i : ℕ) → at ix (point 0) ≤ split n ix ws i
      low i =
          let p = split_present n ix ws i h in
          let q = order_has ix p.0 p.1 in
          let e : at ix (point q.0) ≡ split n ix ws i = ap (at ix) q.2 ∙ p.2 in
          omega (arith, order_rises ix 0 q.0 (omega arith) q.1)

  pub begin : (parts : List ℕ) → 0 < length ix → length parts ≡ length ix → Passed parts 0 0 (at ix (point 0)) 0
  unfolding total
  begin parts h e = record { sum_is = refl; part_is = sym (first_part h); last_is = refl; long = e; done = λ i l. absurd (omega arith) }

  to_places : (x : ℕ) → weight_to ix ws x ≡ sum_where (λ i. leb (at ix (point i)) x) (λ i. at ws (point i)) (length ix)
  unfolding weight_to
  to_places x = order_places (λ p. pick (leb (at ix p) x) (at ws p) 0) ix

  module _ {parts : List ℕ} {sum k last j : ℕ} (s : Passed parts sum k last j) (l : j < length ix) where
    -- the index does not fall
    pub not-below : last ≤ at ix (point j)
    not-below = omega (arith, s.last_is, order_rises ix (j - 1) j (omega arith) l)

    pub point_below : point j < length ix
    point_below = order_below ix j l

    passed_is : sum_where (λ i. ltb i j) (λ i. at ws (point i)) (length ix) ≡ sum
    passed_is = first_terms _ j (length ix) (omega arith) ∙ sym s.sum_is

    -- all points passed are at or below the last index
    passed_to : sum ≤ weight_to ix ws last
    passed_to = rw (to_places last, ← passed_is) (where_mono (λ i. at ws (point i)) (length ix) _ _ (λ i m e. le-leb _ _ (before i (ltb-true i j e))))
      where
        before : (i : ℕ) → i < j → at ix (point i) ≤ last
        before i m = omega (arith, s.last_is, order_rises ix i (j - 1) (omega arith) (omega arith))

    -- no others are below this point's index
    to_passed : (y : ℕ) → y < at ix (point j) → weight_to ix ws y ≤ sum
    to_passed y h = rw (to_places y, ← passed_is) (where_mono (λ i. at ws (point i)) (length ix) _ _ (λ i m e. lt-ltb _ _ (early i m (leb-true _ _ e) (dec_lt i j))))
      where
        early : (i : ℕ) → i < length ix → at ix (point i) ≤ y → Dec (i < j) → i < j
        early i m e (yes g) = g
        early i m e (no g) = absurd (omega (arith, order_rises ix j i (omega arith) m))

    -- a split that the weight passed reaches is at or below the last index
    reached_low : (i : ℕ) → i * weight_all ix ws ≤ n * sum → last < at ix (point j) → split n ix ws i ≤ last
    reached_low i h g =
        let e : last ≡ at ix (point (j - 1)) = s.last_is in
        rw e (split_first n ix ws i (point (j - 1)) (order_below ix (j - 1) (omega arith)) (rw (← e) (omega (arith, mul-le-mul_left n passed_to))))

    -- and one that it does not reach is not below this point's
    missed_high : (i : ℕ) → i ≤ n → n * sum < i * weight_all ix ws → at ix (point j) ≤ split n ix ws i
    missed_high i h g = go (dec_lt (split n ix ws i) (at ix (point j)))
      where
        go : Dec (split n ix ws i < at ix (point j)) → at ix (point j) ≤ split n ix ws i
        go (yes m) = absurd (omega (arith, mul-le-mul_left n (to_passed (split n ix ws i) m), split_enough n ix ws i h))
        go (no m) = omega arith

    -- the part of a new index
    pub advanced : {r : ℕ} → last < at ix (point j) → Advanced k n (weight_all ix ws) sum r → r ≡ part_at n ix ws (at ix (point j))
    advanced {r} h a = sym (cut_is (at ix (point j)) r (omega (arith, a.below)) below above)
      where
        low : (i : ℕ) → i < r → Dec (i < k) → split n ix ws (suc i) < at ix (point j)
        low i m (yes g) = omega (arith, ltb-true (split n ix ws (suc i)) last ((part_cut n ix ws last).pass i (omega (arith, s.part_is))))
        low i m (no g) = omega (arith, reached_low (suc i) (a.reached (suc i) (omega arith) (omega arith)) h)

        below : (i : ℕ) → i < r → ltb (split n ix ws (suc i)) (at ix (point j)) ≡ true
        below i m = lt-ltb _ _ (low i m (dec_lt i k))

        above : (i : ℕ) → r ≤ i → i < n - 1 → ltb (split n ix ws (suc i)) (at ix (point j)) ≡ false
        above i m o = le-ltb _ _ (missed_high (suc i) (omega arith) (a.missed (suc i) (omega arith) (omega arith)))

    -- the part of an index that has not changed
    pub unchanged : at ix (point j) ≤ last → k ≡ part_at n ix ws (at ix (point j))
    unchanged h = let e : at ix (point j) ≡ last = omega (arith, not-below) in rw e s.part_is

    -- one more point
    pub next : {m : ℕ} → m ≡ part_at n ix ws (at ix (point j)) → Passed (set parts (point j) m) (sum + at ws (point j)) m (at ix (point j)) (j + 1)
    next {m} e =
        let z : j + 1 - 1 ≡ j = omega arith in
        record {
          sum_is = omega (arith, s.sum_is, total_more (λ i. at ws (point i)) j);
          part_is = e;
          last_is = rw z;
          long = length-set parts (point j) m ∙ s.long;
          done = λ i g. go i g (ℕ_discrete (point i) (point j));
        }
      where
        go : (i : ℕ) → i < j + 1 → Dec (point i ≡ point j) → at (set parts (point j) m) (point i) ≡ part_at n ix ws (at ix (point i))
        go i g (yes d) = rw d (get_or-set_same parts (point j) m 0 (omega (arith, point_below, s.long)) ∙ e)
        go i g (no d) = get_or-set_other parts (point j) (point i) m 0 d ∙ s.done i (earlier i g (ℕ_discrete i j) d)
          where
            earlier : (i : ℕ) → i < j + 1 → Dec (i ≡ j) → (point i ≡ point j → ⊥) → i < j
            earlier i g (yes z) d = absurd (d (ap point z))
            earlier i g (no z) d = omega (arith, z)

    -- the same in the code's terms
    pub new_part : {all x r : ℕ} → x ≡ at ix (point j) → all ≡ weight_all ix ws → last < x → Advanced k n all sum r → r ≡ part_at n ix ws (at ix (point j))
    new_part {all} {x} {r} e f h a =
        let b : Advanced k n (weight_all ix ws) sum r = rw f at a in
        advanced (omega arith) b

    pub step : {place x w m : ℕ} → place ≡ point j → x ≡ at ix (point j) → w ≡ at ws (point j) → m ≡ part_at n ix ws (at ix (point j))
        → Passed (set parts place m) (sum + w) m x (j + 1)
    step e f g h = rw (e, f, g) (next h)

  -- the end
  pub finished : {parts : List ℕ} {sum k last j : ℕ} → Passed parts sum k last j → length ix ≤ j → parts ≡ parts_of n ix ws
  unfolding parts_of
  finished {parts} s h =
      ext_get_or 0 parts _ (s.long ∙ sym (length_list _ (length ix)))
      (λ p l. each p (omega (arith, s.long)) ∙ sym (get_or_list (λ p. part_at n ix ws (at ix p)) (length ix) p 0 (omega (arith, s.long))))
    where
      each : (p : ℕ) → p < length ix → at parts p ≡ part_at n ix ws (at ix p)
      each p l =
          let q = order_has ix p l in
          let d : at parts (point q.0) ≡ part_at n ix ws (at ix (point q.0)) = s.done q.0 (omega (arith, q.1)) in
          rw q.2 at d

  -- BOUNDS

  module _ (g : Accepted n ix ws) where
    light_at : (p : ℕ) → p < length ix → at ws p ≤ top_weight
    light_at p l = g.light p (omega (arith, g.weights_long))

    pub all_bound : weight_all ix ws ≤ top_all
    unfolding weight_all
    all_bound = omega (arith, total_le (at ws) top_weight (length ix) light_at, g.short)

    module _ {parts : List ℕ} {sum k last j : ℕ} (s : Passed parts sum k last j) where
      pub sum_bound : j ≤ length ix → sum ≤ top_all
      sum_bound h =
          omega (
            arith,
            s.sum_is,
            total_le (λ i. at ws (point i)) top_weight j (λ i l. light_at (point i) (order_below ix i (omega arith))),
            g.short,
          )

      pub part_below : k < n
      part_below = omega (arith, s.part_is, (part_cut n ix ws last).within, g.some)

      pub weight_light : j < length ix → at ws (point j) ≤ top_weight
      weight_light l = light_at (point j) (order_below ix j l)
