-- The search for a cut: where it ends, what lies before, and that it looks at no weight but those of the lines.
use Prim.Native.Nat.{ℕ, zero, suc, ◌+◌, ◌-◌, ◌≤◌, ◌<◌}
use native.Mathlib.Omega.{arith}
use native.Mathlib.Nat.{eq-or-lt_of_le}
use native.Mathlib.Numerals.{add-one}
use mathlib.Core.Path.{◌≡◌, refl, ap, ◌∙◌}
use mathlib.Core.Bool.{Bool, true, false, ◌&&◌, and-false}
use mathlib.Core.Logic.{◌⊎◌, inl, inr, ⊎_elim}
use lib.Dec.{leb, ltb}
use borrow.Author.Tests.{le-leb, lt-leb, leb-true, leb-false, le-ltb, lt-ltb}
use Rattle.rules.specs.Sums.{pick, total}
use Rattle.laws.proofs.Totals.{total_ext}
use Rattle.rules.specs.Halving.{reach, settle, cut_of}

-- the place found is j + n at the latest
pub reach_le : (p : ℕ → ℕ) (lo j n : ℕ) → reach p lo j n ≤ j + n
unfolding reach pick
reach_le p lo j zero = omega arith
reach_le p lo j (suc n) = go j n (leb lo (p j)) (reach_le p lo (suc j) n)
  where
    go : (j n : ℕ) {s : ℕ} (b : Bool) → s ≤ suc j + n → pick b j s ≤ j + suc n
    go j n true h = omega arith
    go j n false h = omega arith

-- all before it are below lo
pub reach_below : (p : ℕ → ℕ) (lo j n i : ℕ) → j ≤ i → i < reach p lo j n → p i < lo
unfolding reach pick
reach_below p lo j zero i h l = omega arith
reach_below p lo j (suc n) i h l = go (leb lo (p j)) refl (λ q r. reach_below p lo (suc j) n i q r) l
  where
    go : (b : Bool) → leb lo (p j) ≡ b → (suc j ≤ i → i < reach p lo (suc j) n → p i < lo) → i < pick b j (reach p lo (suc j) n) → p i < lo
    go true e f l = omega arith
    go false e f l = ⊎_elim (λ (q : j ≡ i). rw (← q) (leb-false lo (p j) e)) (λ (q : j < i). f q l) (eq-or-lt_of_le h)

-- it has lo or more, or is the last
pub reach_hit : (p : ℕ → ℕ) (lo j n : ℕ) → (lo ≤ p (reach p lo j n)) ⊎ (reach p lo j n ≡ j + n)
unfolding reach pick
reach_hit p lo j zero = inr (omega arith)
reach_hit p lo j (suc n) = go (leb lo (p j)) refl (reach_hit p lo (suc j) n)
  where
    go : (b : Bool) → leb lo (p j) ≡ b → (lo ≤ p (reach p lo (suc j) n)) ⊎ (reach p lo (suc j) n ≡ suc j + n)
        → (lo ≤ p (pick b j (reach p lo (suc j) n))) ⊎ (pick b j (reach p lo (suc j) n) ≡ j + suc n)
    go true e f = inl (leb-true lo (p j) e)
    go false e f = ⊎_elim (λ h. inl h) (λ h. inr (omega (arith, h))) f

-- the cut lies among the lines
pub cut_inside : (a : ℕ → ℕ) (m lo hi : ℕ) → 0 < m → cut_of a m lo hi < m
unfolding cut_of settle pick
cut_inside a m lo hi h =
    let p : ℕ = total a (reach (total a) lo 0 (m - 1)) in
    go (leb lo p && ltb hi p) (reach_le (total a) lo 0 (m - 1))
  where
    go : {j : ℕ} (b : Bool) → j ≤ 0 + (m - 1) → pick b (j - 1) j < m
    go true l = omega arith
    go false l = omega arith

-- The search, step by step.

pub reach_found : (p : ℕ → ℕ) (lo j k : ℕ) → lo ≤ p j → reach p lo j k ≡ j
unfolding reach pick
reach_found p lo j zero h = refl
reach_found p lo j (suc k) h = rw (le-leb lo (p j) h)

pub reach_end : (p : ℕ → ℕ) (lo j k : ℕ) → k ≡ 0 → reach p lo j k ≡ j
unfolding reach
reach_end p lo j k e = rw e

pub reach_step : (p : ℕ → ℕ) (lo j m : ℕ) → p j < lo → j + 1 < m → reach p lo j (m - 1 - j) ≡ reach p lo (j + 1) (m - 1 - (j + 1))
unfolding reach pick
reach_step p lo j m h l =
    let e : m - 1 - j ≡ suc (m - 1 - (j + 1)) = omega arith in
    rw (e, lt-leb lo (p j) h, add-one j)

pub settle_short : (p : ℕ → ℕ) (lo hi j : ℕ) → p j < lo → settle p lo hi j ≡ j
unfolding settle pick
settle_short p lo hi j h = rw (lt-leb lo (p j) h)

pub settle_here : (p : ℕ → ℕ) (lo hi j : ℕ) → p j ≤ hi → settle p lo hi j ≡ j
unfolding settle pick
settle_here p lo hi j h = rw (le-ltb hi (p j) h, and-false)

pub settle_back : (p : ℕ → ℕ) (lo hi j : ℕ) → lo ≤ p j → hi < p j → settle p lo hi j ≡ j - 1
unfolding settle pick
settle_back p lo hi j l h = rw (le-leb lo (p j) l, lt-ltb hi (p j) h)

-- the search looks at no more than j .. j + k
pub reach_ext : (p q : ℕ → ℕ) (lo j k : ℕ) → ((i : ℕ) → i < j + k → p i ≡ q i) → reach p lo j k ≡ reach q lo j k
unfolding reach
reach_ext p q lo j zero h = refl
reach_ext p q lo j (suc k) h =
    rw (h j (omega arith), reach_ext p q lo (suc j) k (λ i l. h i (omega arith)))

pub settle_ext : (p q : ℕ → ℕ) (lo hi j : ℕ) → p j ≡ q j → settle p lo hi j ≡ settle q lo hi j
unfolding settle
settle_ext p q lo hi j h = rw h

pub cut_ext : (a b : ℕ → ℕ) (m lo hi : ℕ) → ((i : ℕ) → i < m → a i ≡ b i) → cut_of a m lo hi ≡ cut_of b m lo hi
unfolding cut_of
cut_ext a b m lo hi h =
    settle_ext (total a) (total b) lo hi (reach (total a) lo 0 (m - 1))
    (total_ext a b _ (λ i l. h i (omega (arith, reach_le (total a) lo 0 (m - 1)))))
    ∙ ap (settle (total b) lo hi) (reach_ext (total a) (total b) lo 0 (m - 1) (λ i l. total_ext a b i (λ k r. h k (omega arith))))
