-- The answer of tests that stand behind others: the others' refusal, or their own answer where none of the others passes. Assumes nothing.
use mathlib.Core.Path.{◌≡◌, refl}
use mathlib.Core.Bool.{Bool, true, false}
use mathlib.Core.List.{List, [], ◌∷◌, ◌++◌}
use Rattle.std.specs.Prelude.{Ok, Err, cond}
use Rattle.rules.specs.Refusals.{Test, answer_by}
use Rattle.rules.specs.declared.refusal.Refusal.{Refusal}

module _ {A B : Type 0} (v : A) (w : B) (us : List Test) where
  pub refused_before : (ts : List Test) (r : Refusal) → answer_by ts v ≡ Err r → answer_by (ts ++ us) w ≡ Err r
  refused_before [] r e = cc
  refused_before (t ∷ ts) r e = go t.passes (refused_before ts r) e
    where
      go : (b : Bool) → (answer_by ts v ≡ Err r → answer_by (ts ++ us) w ≡ Err r) → cond b (Err t.refusal) (answer_by ts v) ≡ Err r
          → cond b (Err t.refusal) (answer_by (ts ++ us) w) ≡ Err r
      go true f e = cc
      go false f e = f e

  pub passed_before : (ts : List Test) (u : A) → answer_by ts v ≡ Ok u → answer_by (ts ++ us) w ≡ answer_by us w
  passed_before [] u e = refl
  passed_before (t ∷ ts) u e = go t.passes (passed_before ts u) e
    where
      go : (b : Bool) → (answer_by ts v ≡ Ok u → answer_by (ts ++ us) w ≡ answer_by us w) → cond b (Err t.refusal) (answer_by ts v) ≡ Ok u
          → cond b (Err t.refusal) (answer_by (ts ++ us) w) ≡ answer_by us w
      go true f e = cc
      go false f e = f e
