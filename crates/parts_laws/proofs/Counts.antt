-- Counts, smallest values, and the largest value that passes a test. Assumes nothing.
use Prim.Native.Nat.{ℕ, zero, suc, ◌≤◌, ◌<◌, min}
use native.Mathlib.Omega.{arith}
use native.Mathlib.Nat.{eq-or-lt_of_le}
use native.Mathlib.Decide.{dec_le}
use mathlib.Core.Logic.{◌⊎◌, inl, inr, ⊎_elim}
use mathlib.Core.Bool.{Bool, true, false}
use mathlib.Core.Path.{◌≡◌, refl}
use Rattle.rules.specs.Sums.{pick, total, top}
use Rattle.requests.specs.Parts.{count, least}
use Rattle.laws.proofs.Any.{never}
use Rattle.laws.proofs.Totals.{top-le}

at_most : {i n : ℕ} → i < suc n → i ≤ n
at_most h = omega arith

-- COUNTS

-- the first k pass and the others do not: there are k
pub count_is : (t : ℕ → Bool) (k n : ℕ) → k ≤ n → ((i : ℕ) → i < k → t i ≡ true) → ((i : ℕ) → k ≤ i → i < n → t i ≡ false) → count t n ≡ k
unfolding total pick
count_is t k zero h f g = omega arith
count_is t k (suc n) h f g =
    ⊎_elim (λ (e : k ≡ suc n). rw (f n (omega arith)) (omega (arith, count_is t n n (omega arith) (λ i l. f i (omega arith)) (λ i l m. absurd (omega arith)))))
    (λ (l : k < suc n). rw (g n (omega arith) (omega arith)) (omega (arith, count_is t k n (omega arith) f (λ i a b. g i a (omega arith)))))
    (eq-or-lt_of_le h)

-- of a test that fails from some place on: those below the count pass, those from it on do not
pub record Cut (t : ℕ → Bool) (n k : ℕ) : Type 0 where
  pub within : k ≤ n
  pub pass : (i : ℕ) → i < k → t i ≡ true
  pub fail : (i : ℕ) → k ≤ i → i < n → t i ≡ false

pub cut : (t : ℕ → Bool) → ((i j : ℕ) → i ≤ j → t j ≡ true → t i ≡ true) → (n : ℕ) → Cut t n (count t n)
cut t down n = let c = find n in rw (count_is t c.0 n c.1.within c.1.pass c.1.fail) c.1
  where
    find : (n : ℕ) → (k : ℕ) × Cut t n k
    find zero = (0, record { within = omega arith; pass = λ i l. absurd (omega arith); fail = λ i a l. absurd (omega arith) })
    find (suc n) = go (t n) refl (find n)
      where
        go : (b : Bool) → t n ≡ b → ((k : ℕ) × Cut t n k) → (k : ℕ) × Cut t (suc n) k
        go true e c = (suc n, record { within = omega arith; pass = λ i l. down i n (at_most l) e; fail = λ i a l. absurd (omega arith) })
        go false e c = (
          c.0,
          record {
            within = omega (arith, c.1.within);
            pass = c.1.pass;
            fail = λ i a l. ⊎_elim (λ (z : i ≡ n). rw z e) (λ (z : i < n). c.1.fail i a z) (eq-or-lt_of_le (at_most l));
          },
        )

-- SMALLEST VALUES

module _ (t : ℕ → Bool) (f : ℕ → ℕ) (d : ℕ) where
  pub least_default : (n : ℕ) → least t f d n ≤ d
  unfolding least pick
  least_default zero = omega arith
  least_default (suc n) = go (t n) (least_default n)
    where
      go : (b : Bool) → least t f d n ≤ d → pick b (min (f n) (least t f d n)) (least t f d n) ≤ d
      go true h = omega arith
      go false h = h

  pub least_le : (n c : ℕ) → c < n → t c ≡ true → least t f d n ≤ f c
  unfolding least pick
  least_le zero c h e = omega arith
  least_le (suc n) c h e =
      ⊎_elim (λ (z : c ≡ n). let u : t n ≡ true = rw (← z) e in rw (u, z) (omega arith)) (λ (l : c < n). go (t n) (least_le n c l e)) (eq-or-lt_of_le (at_most h))
    where
      go : (b : Bool) → least t f d n ≤ f c → pick b (min (f n) (least t f d n)) (least t f d n) ≤ f c
      go true h = omega arith
      go false h = h

  -- what holds of all values that may be the smallest holds of it
  pub least_has : (P : ℕ → Type 0) (n : ℕ) → P d → ((c : ℕ) → c < n → t c ≡ true → P (f c)) → P (least t f d n)
  unfolding least pick
  least_has P zero h g = h
  least_has P (suc n) h g = go (t n) refl (least_has P n h (λ c l. g c (omega arith)))
    where
      low : (a b : ℕ) → P a → P b → Dec (a ≤ b) → P (min a b)
      low a b p q (yes l) = let e : min a b ≡ a = omega arith in rw e p
      low a b p q (no l) = let e : min a b ≡ b = omega arith in rw e q

      go : (b : Bool) → t n ≡ b → P (least t f d n) → P (pick b (min (f n) (least t f d n)) (least t f d n))
      go true e q = low (f n) (least t f d n) (g n (omega arith) e) q (dec_le (f n) (least t f d n))
      go false e q = q

-- LARGEST VALUES

-- the largest is one of them
pub top_present : (f : ℕ → ℕ) (n : ℕ) → 0 < n → (p : ℕ) × (p < n) × (f p ≡ top f n)
unfolding top
top_present f zero h = absurd (omega arith)
top_present f (suc zero) h = (0, omega arith, omega arith)
top_present f (suc (suc n)) h = go (top_present f (suc n) (omega arith)) (dec_le (top f (suc n)) (f (suc n)))
  where
    go : (p : ℕ) × (p < suc n) × (f p ≡ top f (suc n)) → Dec (top f (suc n) ≤ f (suc n)) → (p : ℕ) × (p < suc (suc n)) × (f p ≡ top f (suc (suc n)))
    go t (yes l) = (suc n, omega arith, omega arith)
    go t (no l) = (t.0, omega (arith, t.1), omega (arith, t.2))

-- the number below n that passes a test and has the largest value
pub record Best (t : ℕ → Bool) (f : ℕ → ℕ) (n b : ℕ) : Type 0 where
  pub inside : b < n
  pub passes : t b ≡ true
  pub largest : (c : ℕ) → c < n → t c ≡ true → f c ≤ f b

module _ (t : ℕ → Bool) (f : ℕ → ℕ) where
  -- it has the largest rank, where what fails has the lowest
  rank : ℕ → ℕ
  rank c = pick (t c) (suc (f c)) 0

  rank_is : (c : ℕ) (b : Bool) → t c ≡ b → rank c ≡ pick b (suc (f c)) 0
  unfolding rank
  rank_is c b e = rw e

  pub best : (n : ℕ) → ((c : ℕ) → c < n → t c ≡ false) ⊎ ((b : ℕ) × Best t f n b)
  unfolding pick
  best zero = inl (λ c l. absurd (omega arith))
  best (suc n) = go (top_present rank (suc n) (omega arith))
    where
      go : (b : ℕ) × (b < suc n) × (rank b ≡ top rank (suc n)) → ((c : ℕ) → c < suc n → t c ≡ false) ⊎ ((b : ℕ) × Best t f (suc n) b)
      go b = by (t b.0) refl
        where
          at_most_it : (c : ℕ) → c < suc n → t c ≡ true → suc (f c) ≤ rank b.0
          at_most_it c l z = omega (arith, top-le rank (suc n) c l, rank_is c true z, b.2)

          by : (p : Bool) → t b.0 ≡ p → ((c : ℕ) → c < suc n → t c ≡ false) ⊎ ((b : ℕ) × Best t f (suc n) b)
          by true e = inr (b.0, record { inside = b.1; passes = e; largest = λ c l z. omega (arith, at_most_it c l z, rank_is b.0 true e) })
          by false e = inl (λ c l. never (t c) (λ z. omega (arith, at_most_it c l z, rank_is b.0 false e)))
