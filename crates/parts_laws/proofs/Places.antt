-- The order list place by place: each point has a place and each place a point, and indices rise. Assumes nothing.
use Prim.Native.Nat.{ℕ, zero, suc, ◌+◌, ◌≤◌, ◌<◌}
use native.Mathlib.Omega.{arith}
use native.Mathlib.Decide.{dec_lt}
use mathlib.Core.Logic.{⊎_elim}
use mathlib.Core.Bool.{Bool, true, false}
use mathlib.Core.Path.{◌≡◌, refl, ap, sym, ◌∙◌}
use mathlib.Core.List.{List, [], ◌∷◌}
use lib.ListN.{length}
use lib.Dec.{eqb}
use borrow.Author.Tests.{eqb-true, lt-ltb, le-ltb}
use Rattle.rules.specs.Sums.{pick, total}
use Rattle.requests.specs.Order.{at, order_of, times, InOrder}
use Rattle.parts_laws.proofs.Before.{is_before}
use Rattle.parts_laws.proofs.Sorting.{along, order_along, order_once, order_list, times_head, times_tail, first_has}

-- a sum from its first term
total_front : (f : ℕ → ℕ) (n : ℕ) → total f (suc n) ≡ f 0 + total (λ i. f (suc i)) n
unfolding total
total_front f zero = omega arith
total_front f (suc n) = omega (arith, total_front f n)

pub along_places : (f : ℕ → ℕ) (l : List ℕ) → along f l ≡ total (λ i. f (at l i)) (length l)
unfolding along total
along_places f [] = refl
along_places f (p ∷ ps) = ap (λ (k : ℕ). f p + k) (along_places f ps) ∙ sym (total_front (λ i. f (at (p ∷ ps) i)) (length ps))

pub length_order : (ix : List ℕ) → length (order_of ix) ≡ length ix
unfolding along total
length_order ix = sym (ones (order_of ix)) ∙ order_along (λ p. 1) ix ∙ total_ones (length ix)
  where
    ones : (l : List ℕ) → along (λ p. 1) l ≡ length l
    ones [] = refl
    ones (p ∷ ps) = omega (arith, ones ps)

    total_ones : (n : ℕ) → total (λ p. 1) n ≡ n
    total_ones zero = refl
    total_ones (suc n) = omega (arith, total_ones n)

-- a sum over all points, place by place along their order
pub order_places : (f : ℕ → ℕ) (ix : List ℕ) → total f (length ix) ≡ total (λ i. f (at (order_of ix) i)) (length ix)
order_places f ix = sym (order_along f ix) ∙ along_places f (order_of ix) ∙ ap (total (λ i. f (at (order_of ix) i))) (length_order ix)

-- where a number stands that stands in a list
place_of : (p : ℕ) (l : List ℕ) → 0 < times p l → (i : ℕ) × (i < length l) × (at l i ≡ p)
unfolding times pick
place_of p [] h = absurd (omega arith)
place_of p (q ∷ qs) h = go (eqb p q) refl h (place_of p qs)
  where
    go : (b : Bool) → eqb p q ≡ b → 0 < pick b (suc (times p qs)) (times p qs) → (0 < times p qs → (i : ℕ) × (i < length qs) × (at qs i ≡ p))
        → (i : ℕ) × (i < length (q ∷ qs)) × (at (q ∷ qs) i ≡ p)
    go true e l g = (0, omega arith, sym (eqb-true p q e))
    go false e l g = let r = g l in (suc r.0, omega (arith, r.1), r.2)

times_at : (l : List ℕ) (i : ℕ) → i < length l → 0 < times (at l i) l
times_at [] i h = absurd (omega arith)
times_at (q ∷ qs) zero h = omega (arith, times_head q qs)
times_at (q ∷ qs) (suc i) h = omega (arith, times_at qs i (omega arith), times_tail (at qs i) q qs)

-- each point has a place in the order, and each place a point
pub order_has : (ix : List ℕ) (p : ℕ) → p < length ix → (i : ℕ) × (i < length ix) × (at (order_of ix) i ≡ p)
unfolding pick
order_has ix p h =
    let o : times p (order_of ix) ≡ 1 = order_once ix p ∙ rw (lt-ltb p (length ix) h) in
    let r = place_of p (order_of ix) (omega arith) in
    (r.0, omega (arith, r.1, length_order ix), r.2)

pub order_below : (ix : List ℕ) (i : ℕ) → i < length ix → at (order_of ix) i < length ix
unfolding pick
order_below ix i h = go (dec_lt (at (order_of ix) i) (length ix))
  where
    go : Dec (at (order_of ix) i < length ix) → at (order_of ix) i < length ix
    go (yes l) = l
    go (no l) =
        absurd (omega (
          arith,
          times_at (order_of ix) i (omega (arith, length_order ix)),
          rw (le-ltb (at (order_of ix) i) (length ix) (omega arith)) at (order_once ix (at (order_of ix) i)),
        ))

-- indices rise from place to place
rises : (ix l : List ℕ) (i j : ℕ) → InOrder ix l → i ≤ j → j < length l → at ix (at l i) ≤ at ix (at l j)
unfolding InOrder
rises ix [] i j o h g = absurd (omega arith)
rises ix (p ∷ ps) zero zero o h g = omega arith
rises ix (p ∷ ps) zero (suc j) o h g =
    ⊎_elim (λ a. omega arith) (λ a. omega arith)
    (is_before ix p (at ps j) (first_has ix p (at ps j) ps o.0 (times_at ps j (omega arith))))
rises ix (p ∷ ps) (suc i) zero o h g = absurd (omega arith)
rises ix (p ∷ ps) (suc i) (suc j) o h g = rises ix ps i j o.1 (omega arith) (omega arith)

pub order_rises : (ix : List ℕ) (i j : ℕ) → i ≤ j → j < length ix → at ix (at (order_of ix) i) ≤ at ix (at (order_of ix) j)
order_rises ix i j h g = rises ix (order_of ix) i j (order_list ix).rising h (omega (arith, length_order ix))
