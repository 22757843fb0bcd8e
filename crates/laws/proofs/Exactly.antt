-- Tests in order give exactly the number of the first that passes. Assumes nothing.
use Prim.Native.Nat.{ℕ, zero, suc, ◌<◌}
use mathlib.Core.Path.{◌≡◌, refl}
use mathlib.Core.Bool.{Bool, true, false, true≢false, false≢true}
use mathlib.Core.List.{List, [], ◌∷◌, ◌++◌}
use native.Mathlib.Omega.{arith}
use Rattle.rules.specs.Refusals.{Reading, Test, test, refuse, first_of, number_of, answer_by, read, slice_by}
use Rattle.rules.specs.declared.refusal.Refusal.{Refusal}
use Rattle.rules.specs.Demands.{FirstIs, NonePasses, number_at, Exactly}
use Rattle.laws.proofs.Numbers.{number_above_0}
use Rattle.laws.proofs.Readings.{value_by, reading_of}

-- one test more, which passes or not
passed : (r : Refusal) (ts : List Test) (i : ℕ) → FirstIs (test true r ∷ ts) i → number_of r ≡ number_at (test true r ∷ ts) i
passed r ts zero f = refl
passed r ts (suc i) f = absurd (true≢false f.0)

failed : (r : Refusal) (m : ℕ) (ts : List Test) → ((i : ℕ) → FirstIs ts i → m ≡ number_at ts i) → (i : ℕ) → FirstIs (test false r ∷ ts) i
    → m ≡ number_at (test false r ∷ ts) i
failed r m ts e zero f = absurd (false≢true f)
failed r m ts e (suc i) f = e i f.1

more : (b : Bool) (r : Refusal) (ts : List Test) → Exactly ts (first_of ts) → Exactly (test b r ∷ ts) (refuse b (number_of r) (first_of ts))
more true r ts e =
    record {
      first = passed r ts;
      none = λ f. absurd (true≢false f.0);
      refused = λ _. (0, refl, refl);
      answered = λ z. let l = number_above_0 r in absurd (omega arith);
    }
more false r ts e =
    record {
      first = failed r (first_of ts) ts e.first;
      none = λ f. e.none f.1;
      refused = λ l. let at = e.refused l in (suc at.0, (refl, at.1), at.2);
      answered = λ z. (refl, e.answered z);
    }

pub exactly : (ts : List Test) → Exactly ts (first_of ts)
exactly [] = record { first = λ i f. absurd f; none = λ _. refl; refused = λ l. absurd (omega arith); answered = λ _. tt }
exactly (t ∷ ts) = more t.passes t.refusal ts (exactly ts)

-- what the tests say once they are passed
pub none_passes : (ts : List Test) → first_of ts ≡ 0 → NonePasses ts
none_passes ts = (exactly ts).answered

-- of tests behind others: those count where none of the others passes
pub first_earlier : (ts us : List Test) (n : ℕ) → first_of ts ≡ suc n → first_of (ts ++ us) ≡ suc n
first_earlier [] us n e = absurd (omega arith)
first_earlier (t ∷ ts) us n e = go t.passes (first_earlier ts us n) e
  where
    go : (b : Bool) → (first_of ts ≡ suc n → first_of (ts ++ us) ≡ suc n) → refuse b (number_of t.refusal) (first_of ts) ≡ suc n
        → refuse b (number_of t.refusal) (first_of (ts ++ us)) ≡ suc n
    go true f e = e
    go false f e = f e

pub first_later : (ts us : List Test) → NonePasses ts → first_of (ts ++ us) ≡ first_of us
first_later [] us p = refl
first_later (t ∷ ts) us p = rw p.0 (first_later ts us p.1)

-- the same of an answer, which reads zeros after a refusal
pub record Refuses {A : Type 0} (ts : List Test) (r : Reading A) (zeros : A) : Type 0 where
  pub number : Exactly ts r.number
  pub value : 0 < r.number → r.value ≡ zeros

pub refuses : {A : Type 0} (ts : List Test) (n : ℕ) (v zeros : A) → Exactly ts n → Refuses ts (value_by n v zeros) zeros
refuses ts zero v zeros e = record { number = e; value = λ l. absurd (omega arith) }
refuses ts (suc n) v zeros e = record { number = e; value = λ _. refl }

pub answer_refuses : {A : Type 0} (ts : List Test) (value zeros : A) → Refuses ts (read zeros (answer_by ts value)) zeros
answer_refuses ts value zeros = rw (reading_of ts value zeros) (refuses ts (first_of ts) value zeros (exactly ts))

-- and of a lent slice, which is untouched after one
pub untouched : (n : ℕ) (written before : List ℕ) → 0 < n → slice_by n written before ≡ before
unfolding slice_by
untouched zero written before l = absurd (omega arith)
untouched (suc n) written before l = refl
