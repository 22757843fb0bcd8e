-- A raised part is heavier than the heaviest, or the heaviest stays so.
use Prim.Native.Nat.{ℕ, ◌+◌, ◌≤◌, ◌<◌, max}
use native.Mathlib.Omega.{arith}
use native.Mathlib.Nat.{eq-or-lt_of_le, le_refl, le_of_lt, le_trans}
use mathlib.Core.Bool.{true, false}
use mathlib.Core.Logic.{⊎_elim, ◌⊎◌, inl, inr}
use mathlib.Core.Path.{◌≡◌}
use mathlib.Core.List.{List}
use lib.Dec.{eqb}
use lib.ListN.{length, take}
use Rattle.std.proofs.lemmas.List.{get_or-take, length-take-le}
use borrow.Author.Tests.{eqb-true, eqb-false, ne_eqb}
use Rattle.rules.specs.Sums.{pick}
use Rattle.requests.specs.Order.{at}
use Rattle.tally_laws.proofs.Lines.{either}
use Rattle.lightest.proofs.Root.{raised_one}
use Rattle.watch.specs.Watched.{Heaviest, Watched, Was}

-- one part more is looked at; before any is, the first is taken
module _ (parts : List ℕ) where
  pub heaviest_first : Heaviest (max 1 0) parts 0
  heaviest_first = record { inside = omega arith; top = λ i l. let e : i ≡ 0 = omega arith in rw e (le_refl _) }

  last? : (i n : ℕ) → i < max 1 (n + 1) → (i ≡ n) ⊎ (i < n)
  last? i n h = let l : i ≤ n = omega arith in eq-or-lt_of_le l

  module _ (n r : ℕ) (h : Heaviest (max 1 n) parts r) where
    pub heaviest_next : at parts r < at parts n → Heaviest (max 1 (n + 1)) parts n
    heaviest_next l =
        record {
          inside = omega arith;
          top = λ i q. ⊎_elim (λ (e : i ≡ n). rw e (le_refl _)) (λ (p : i < n). le_trans (h.top i (omega arith)) (le_of_lt l)) (last? i n q);
        }

    pub heaviest_stays : at parts n ≤ at parts r → Heaviest (max 1 (n + 1)) parts r
    heaviest_stays l =
        record {
          inside = omega (arith, h.inside);
          top = λ i q. ⊎_elim (λ (e : i ≡ n). rw e l) (λ (p : i < n). h.top i (omega arith)) (last? i n q);
        }

-- a heaviest of the first n is found among these alone
pub heaviest_first_of : (parts : List ℕ) (n : ℕ) {m r : ℕ} → m ≡ n → m ≤ length parts → Heaviest (length (take m parts)) (take m parts) r → Heaviest n parts r
heaviest_first_of parts n {m} {r} e l h = rw (← e) (record { inside = inside; top = λ i q. omega (arith, h.top i (rw long q), get_or-take m parts i 0 q, get_or-take m parts r 0 inside) })
  where
    long : length (take m parts) ≡ m
    long = length-take-le m parts l

    inside : r < m
    inside = rw long at h.inside

-- once the raised part is compared
module _ {n part most : ℕ} {parts tree : List ℕ} (w : Was n part parts most tree) where
  pub now_heaviest : part < n → at parts most < at parts part → Heaviest n parts part
  now_heaviest l h = record { inside = l; top = λ i q. go i q (either (eqb part i)) }
    where
      go : (i : ℕ) → i < n → (eqb part i ≡ true) ⊎ (eqb part i ≡ false) → at parts i ≤ at parts part
      go i q (inl t) = rw (eqb-true part i t) (le_refl _)
      go i q (inr t) = le_trans (w.top i q (eqb-false part i t)) (le_of_lt h)

  pub still_heaviest : at parts part ≤ at parts most → Heaviest n parts most
  still_heaviest h = record { inside = w.inside; top = λ i q. go i q (either (eqb part i)) }
    where
      go : (i : ℕ) → i < n → (eqb part i ≡ true) ⊎ (eqb part i ≡ false) → at parts i ≤ at parts most
      go i q (inl t) = rw (← eqb-true part i t) h
      go i q (inr t) = w.top i q (eqb-false part i t)

-- what is known when a part has been raised
pub was : {n most : ℕ} {before parts tree : List ℕ} → Watched n before most tree → (part amount : ℕ) → part < n
    → ((i : ℕ) → i < n → at parts i ≡ at before i + pick (eqb part i) amount 0) → Was n part parts most tree
unfolding pick
was {most = most} w part amount l f =
    record {
      inside = w.heaviest.inside;
      top = λ i q d. rw (f i q, f most w.heaviest.inside, ne_eqb part i d) (omega (arith, w.heaviest.top i q));
      lightest = raised_one w.lightest part amount l f;
    }
