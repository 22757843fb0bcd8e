-- A call whose number is 0 passed every test, and what each test says of it then holds; what a call leaves. Assumes nothing.
use Prim.Native.Nat.{ℕ, zero, suc, ◌<◌}
use native.Mathlib.Nat.{pos_of_ne-zero}
use native.Mathlib.Omega.{arith}
use mathlib.Core.Path.{◌≡◌, refl}
use mathlib.Core.Bool.{◌||◌}
use mathlib.Core.List.{List, [], ◌∷◌}
use lib.Dec.{eqb, ltb, lit≤}
use lib.ListN.{length, get_or}
use borrow.Author.Tests.{eqb-false, ltb-false}
use Rattle.rules.specs.Refusals.{top_weight, first_of, number_of, slice_by}
use Rattle.rules.specs.declared.refusal.Refusal.{Refusal}
use Rattle.requests.specs.Order.{top_points, order_of}
use Rattle.requests.specs.Parts.{top_parts, parts_tests, parts_of, parts_along}
use Rattle.laws.proofs.Any.{neither, none_at, length_fits}
use Rattle.laws.proofs.Exactly.{none_passes}
use Rattle.laws.proofs.Numbers.{number_above_0}
use Rattle.parts_laws.specs.Accepted.{Accepted}

module _ (n : ℕ) (ix ws parts order : List ℕ) where
  abbrev refusal : ℕ
  refusal = first_of (parts_tests n ix ws parts order)

  abbrev lengths : List ℕ
  lengths = length ws ∷ length parts ∷ length order ∷ []

  -- the lent slices have a place for each point
  pub lengths_fit : refusal ≡ 0 → (i : ℕ) → i < 3 → get_or lengths i 0 ≡ length ix
  unfolding parts_tests
  lengths_fit e = length_fits (length ix) lengths (none_passes (parts_tests n ix ws parts order) e).1.1.0

  pub accepted : refusal ≡ 0 → Accepted n ix ws
  unfolding parts_tests
  accepted e =
      let none = none_passes (parts_tests n ix ws parts order) e in
      let counts = neither (eqb n 0) (ltb top_parts n || ltb top_points (length ix)) none.0 in
      let most = neither (ltb top_parts n) (ltb top_points (length ix)) counts.1 in
      record {
        some = pos_of_ne-zero (eqb-false n 0 counts.0);
        few = ltb-false top_parts n most.0;
        points = pos_of_ne-zero (eqb-false (length ix) 0 none.1.0);
        short = ltb-false top_points (length ix) most.1;
        weights_long = lengths_fit e 0 (lit≤ tt);
        light = λ p l. ltb-false top_weight _ (none_at (ltb top_weight) 0 ws none.1.1.1.0 p l);
      }

  -- whatever number it has but 0
  pub numbered : (r : ℕ) → r ≡ refusal → (r ≡ 0 → ⊥) → parts_along n ix ws parts order ≡ record { number = r; parts = parts; order = order }
  unfolding parts_along slice_by
  numbered zero e f = absurd (f refl)
  numbered (suc r) e f = rw (← e)

  pub refused : (r : Refusal) → number_of r ≡ refusal → parts_along n ix ws parts order ≡ record { number = number_of r; parts = parts; order = order }
  refused r e = numbered (number_of r) e (λ z. omega (arith, number_above_0 r))

  pub answered : refusal ≡ 0 → parts_along n ix ws parts order ≡ record { number = 0; parts = parts_of n ix ws; order = order_of ix }
  unfolding parts_along slice_by
  answered e = rw e
