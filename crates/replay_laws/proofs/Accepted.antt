-- A call whose number is 0 passed every test: its halving is not refused, its edition is 2, and it has an amount and an answer for each event.
use Prim.Native.Nat.{ℕ, zero, suc}
use native.Mathlib.Omega.{arith}
use mathlib.Core.Path.{◌≡◌, refl}
use mathlib.Core.Bool.{false, not}
use mathlib.Core.List.{List, [], ◌∷◌}
use lib.Dec.{eqb, lit≤}
use lib.ListN.{length}
use borrow.Author.Tests.{eqb-true, not-false}
use Rattle.rules.specs.declared.refusal.Refusal.{Refusal}
use Rattle.rules.specs.Refusals.{first_of, number_of, grid_lengths_off, grid_tests, edition_unknown, lengths_off, slice_by}
use Rattle.rules.specs.Halving.{Halving, refusal_of}
use Rattle.rules.specs.Demands.{NonePasses}
use Rattle.requests.specs.Replay.{Night, night, weights_at, said_at, splits_at, ids_at, replay_tests, Replayed, replay}
use Rattle.laws.proofs.Any.{neither, none_at}
use Rattle.laws.proofs.Exactly.{none_passes}
use Rattle.laws.proofs.Numbers.{number_above_0}
use Rattle.halving_laws.specs.Accepted.{Accepted}
use Rattle.halving_laws.proofs.Accepted.{accepted}

module _ (h : Halving) (ws cs ms answers splits ids : List ℕ) where
  module _ (e : first_of (replay_tests h ws cs ms answers splits ids) ≡ 0) where
    passed : NonePasses (replay_tests h ws cs ms answers splits ids)
    unfolding replay_tests
    passed = none_passes (replay_tests h ws cs ms answers splits ids) e

    pub edition_is_2 : h.edition ≡ 2
    unfolding replay_tests
    edition_is_2 = eqb-true _ 2 (not-false _ passed.0)

    known : edition_unknown h.edition ≡ false
    known = rw edition_is_2

    lengths : (grid_lengths_off h.sides h.depth (length ws) (length ids) (length splits) ≡ false) × (lengths_off (length cs) (length ms ∷ length answers ∷ []) ≡ false)
    unfolding replay_tests
    lengths = neither (grid_lengths_off h.sides h.depth (length ws) (length ids) (length splits)) _ passed.1.1.1.1.0

    not_refused : refusal_of h ws splits ids ≡ 0
    unfolding replay_tests grid_tests
    not_refused = rw (known, passed.1.0, passed.1.1.0, passed.1.1.1.0, lengths.0, passed.1.1.1.1.1.0)

    pub replay_accepted : Accepted h ws splits ids
    replay_accepted = accepted h ws splits ids not_refused

    pub amounts_long : length ms ≡ length cs
    amounts_long = eqb-true _ (length cs) (not-false _ (none_at (λ m. not (eqb m (length cs))) 0 (length ms ∷ length answers ∷ []) lengths.1 0 (lit≤ tt)))

    pub answers_long : length answers ≡ length cs
    answers_long = eqb-true _ (length cs) (not-false _ (none_at (λ m. not (eqb m (length cs))) 0 (length ms ∷ length answers ∷ []) lengths.1 1 (lit≤ tt)))

  -- what a call leaves, whatever number it has but 0
  pub numbered : (n : ℕ) → n ≡ first_of (replay_tests h ws cs ms answers splits ids) → (n ≡ 0 → ⊥)
      → replay h ws cs ms answers splits ids ≡ record { number = n; weights = ws; answers = answers; splits = splits; ids = ids }
  unfolding replay slice_by
  numbered zero e f = absurd (f refl)
  numbered (suc n) e f = rw (← e)

  pub refused : (r : Refusal) → number_of r ≡ first_of (replay_tests h ws cs ms answers splits ids)
      → replay h ws cs ms answers splits ids ≡ record { number = number_of r; weights = ws; answers = answers; splits = splits; ids = ids }
  refused r e = numbered (number_of r) e (λ z. omega (arith, number_above_0 r))

  pub answered : first_of (replay_tests h ws cs ms answers splits ids) ≡ 0
      → replay h ws cs ms answers splits ids
      ≡ (let t : Night = night ws cs ms in let n : ℕ = length cs in record { number = 0; weights = weights_at t n; answers = said_at t n; splits = splits_at h t n; ids = ids_at h t n })
  unfolding replay slice_by
  answered e = rw e

  -- the same as a contract says it, part by part
  abbrev pub Leaves : ℕ → List ℕ → List ℕ → List ℕ → List ℕ → Type 0
  Leaves n ws' answers' splits' ids' =
      let after : Replayed = replay h ws cs ms answers splits ids in
      (n ≡ after.number) × ((ws' ≡ after.weights) × ((answers' ≡ after.answers) × ((splits' ≡ after.splits) × (ids' ≡ after.ids))))

  pub numbered_leaves : (n : ℕ) → n ≡ first_of (replay_tests h ws cs ms answers splits ids) → (n ≡ 0 → ⊥) → Leaves n ws answers splits ids
  numbered_leaves n e f = rw (numbered n e f) (refl, (refl, (refl, (refl, refl))))

  pub refused_leaves : (r : Refusal) → number_of r ≡ first_of (replay_tests h ws cs ms answers splits ids) → Leaves (number_of r) ws answers splits ids
  refused_leaves r e = rw (refused r e) (refl, (refl, (refl, (refl, refl))))

  pub answered_leaves : {n : ℕ} {ws' answers' splits' ids' : List ℕ} → first_of (replay_tests h ws cs ms answers splits ids) ≡ 0 → n ≡ 0
      → (let t : Night = night ws cs ms in let m : ℕ = length cs in
      (ws' ≡ weights_at t m) × ((answers' ≡ said_at t m) × ((splits' ≡ splits_at h t m) × (ids' ≡ ids_at h t m))))
      → Leaves n ws' answers' splits' ids'
  answered_leaves e z w = rw (answered e) (z, w)
