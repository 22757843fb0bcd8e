-- What an answer stands for: the number of the first test that passes, and its value where none does, else zeros. Assumes nothing.
use Prim.Native.Nat.{ℕ, zero, suc, ◌<◌}
use mathlib.Core.Path.{◌≡◌, refl}
use mathlib.Core.Bool.{Bool, true, false}
use mathlib.Core.List.{List, [], ◌∷◌}
use native.Mathlib.Omega.{arith}
use Rattle.std.specs.Prelude.{Ok, Err, cond}
use Rattle.rules.specs.Refusals.{Reading, Test, refuse, first_of, answer_by, number_of, number_in, read}
use Rattle.laws.proofs.Numbers.{number_above_0}

-- a value where the number is 0, else another
abbrev pub value_by : {A : Type 0} → ℕ → A → A → Reading A
value_by zero value zeros = record { number = 0; value = value }
value_by (suc n) value zeros = record { number = suc n; value = zeros }

refused_value : {A : Type 0} (n : ℕ) (value zeros : A) → 0 < n → record { number = n; value = zeros } ≡ value_by n value zeros
refused_value zero value zeros l = absurd (omega arith)
refused_value (suc n) value zeros l = refl

pub reading_of : {A : Type 0} (ts : List Test) (value zeros : A) → read zeros (answer_by ts value) ≡ value_by (first_of ts) value zeros
reading_of [] value zeros = refl
reading_of (t ∷ ts) value zeros = go t.passes (reading_of ts value zeros)
  where
    go : (b : Bool) → read zeros (answer_by ts value) ≡ value_by (first_of ts) value zeros
        → read zeros (cond b (Err t.refusal) (answer_by ts value)) ≡ value_by (refuse b (number_of t.refusal) (first_of ts)) value zeros
    go true e = refused_value (number_of t.refusal) value zeros (number_above_0 t.refusal)
    go false e = e

-- the number of an answer is that of the first test that passes, and its value is there where none does
pub number_of_answer : {A : Type 0} (ts : List Test) (value : A) → number_in (answer_by ts value) ≡ first_of ts
number_of_answer [] value = refl
number_of_answer (t ∷ ts) value = go t.passes (number_of_answer ts value)
  where
    go : (b : Bool) → number_in (answer_by ts value) ≡ first_of ts
        → number_in (cond b (Err t.refusal) (answer_by ts value)) ≡ refuse b (number_of t.refusal) (first_of ts)
    go true e = refl
    go false e = e

pub answered : {A : Type 0} (ts : List Test) (value : A) → first_of ts ≡ 0 → answer_by ts value ≡ Ok value
answered [] value z = refl
answered (t ∷ ts) value z = go t.passes (answered ts value) z
  where
    go : (b : Bool) → (first_of ts ≡ 0 → answer_by ts value ≡ Ok value) → refuse b (number_of t.refusal) (first_of ts) ≡ 0
        → cond b (Err t.refusal) (answer_by ts value) ≡ Ok value
    go true f z = let l = number_above_0 t.refusal in absurd (omega arith)
    go false f z = f z

-- and an answer that is a value passes no test
pub answered_by : {A : Type 0} (ts : List Test) (value v : A) → answer_by ts value ≡ Ok v → (first_of ts ≡ 0) × (value ≡ v)
answered_by [] value v e = (refl, cc)
answered_by (t ∷ ts) value v e = go t.passes (answered_by ts value v) e
  where
    go : (b : Bool) → (answer_by ts value ≡ Ok v → (first_of ts ≡ 0) × (value ≡ v)) → cond b (Err t.refusal) (answer_by ts value) ≡ Ok v
        → (refuse b (number_of t.refusal) (first_of ts) ≡ 0) × (value ≡ v)
    go true f e = cc
    go false f e = f e
