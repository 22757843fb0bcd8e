-- What a call leaves: after a refusal what stood there, else the rule's splits and ids.
use Prim.Native.Nat.{ℕ, zero, suc}
use native.Mathlib.Omega.{arith}
use mathlib.Core.Path.{◌≡◌, refl}
use mathlib.Core.List.{List}
use Rattle.rules.specs.Refusals.{number_of, slice_by}
use Rattle.rules.specs.Halving.{Halving, halve, refusal_of, splits_by, ids_by}
use Rattle.rules.specs.declared.refusal.Refusal.{Refusal}
use Rattle.laws.proofs.Numbers.{number_above_0}

module _ (h : Halving) (ws splits ids : List ℕ) where
  -- whatever number it has but 0
  pub numbered : (n : ℕ) → n ≡ refusal_of h ws splits ids → (n ≡ 0 → ⊥) → halve h ws splits ids ≡ record { number = n; splits = splits; ids = ids }
  unfolding halve slice_by
  numbered zero e f = absurd (f refl)
  numbered (suc n) e f = rw (← e)

  pub refused : (r : Refusal) → number_of r ≡ refusal_of h ws splits ids → halve h ws splits ids ≡ record { number = number_of r; splits = splits; ids = ids }
  refused r e = numbered (number_of r) e (λ z. omega (arith, number_above_0 r))

  pub answered : refusal_of h ws splits ids ≡ 0 → halve h ws splits ids ≡ record { number = 0; splits = splits_by h ws; ids = ids_by h ws }
  unfolding halve slice_by
  answered e = rw e
