-- The number of a replay's tests is made of that of its halving's: the tests before 5 are the same, and so is that behind it.
use Prim.Native.Nat.{ℕ}
use mathlib.Core.Path.{◌≡◌, refl}
use mathlib.Core.Bool.{Bool, true, false, not, ◌&&◌, ◌||◌}
use mathlib.Core.List.{List, [], ◌∷◌}
use lib.Dec.{eqb}
use lib.ListN.{length}
use borrow.Author.Tests.{eqb-true, eq-eqb, ne_eqb}
use Rattle.rules.specs.Sums.{pick}
use Rattle.rules.specs.Refusals.{first_of, refuse, first_unknown, sides_unfit, depth_over, grid_lengths_off, lengths_off, weight_over, grid_tests}
use Rattle.rules.specs.Halving.{Halving, refusal_of}
use Rattle.requests.specs.Replay.{replay_tests}
use Rattle.replay_tests.specs.WithEvents.{lengths_too, with_events}

-- tests 14, 9, 10, 5 and 11, with more lengths in the fourth
more_lengths : (first sides depth lengths off weights : Bool)
    → refuse first 14 (refuse sides 9 (refuse depth 10 (refuse (lengths || off) 5 (refuse weights 11 0))))
    ≡ lengths_too off (refuse first 14 (refuse sides 9 (refuse depth 10 (refuse lengths 5 (refuse weights 11 0)))))
unfolding lengths_too pick
more_lengths true s d l true w = refl
more_lengths true s d l false w = refl
more_lengths false true d l true w = refl
more_lengths false true d l false w = refl
more_lengths false false true l true w = refl
more_lengths false false true l false w = refl
more_lengths false false false true true w = refl
more_lengths false false false true false w = refl
more_lengths false false false false true true = refl
more_lengths false false false false true false = refl
more_lengths false false false false false w = refl

module _ (h : Halving) (ws cs ms answers splits ids : List ℕ) where
  pub replay_number : first_of (replay_tests h ws cs ms answers splits ids) ≡ with_events h.edition (refusal_of h ws splits ids) (lengths_off (length cs) (length ms ∷ length answers ∷ []))
  unfolding replay_tests with_events grid_tests
  replay_number = go (eqb h.edition 2) refl
    where
      go : (b : Bool) → eqb h.edition 2 ≡ b
          → refuse (not b) 13 (refuse (first_unknown (length h.sides) h.first) 14 (refuse (sides_unfit h.sides) 9 (refuse (depth_over h.depth) 10 (refuse (grid_lengths_off h.sides h.depth (length ws) (length ids) (length splits) || lengths_off (length cs) (length ms ∷ length answers ∷ [])) 5 (refuse (weight_over ws) 11 0)))))
          ≡ refuse (not b) 13 (lengths_too (lengths_off (length cs) (length ms ∷ length answers ∷ [])) (refusal_of h ws splits ids))
      go false e = refl
      go true e = rw (eqb-true h.edition 2 e) (more_lengths (first_unknown (length h.sides) h.first) (sides_unfit h.sides) (depth_over h.depth) (grid_lengths_off h.sides h.depth (length ws) (length ids) (length splits)) (lengths_off (length cs) (length ms ∷ length answers ∷ [])) (weight_over ws))

  -- the number of the tests: that of the edition, of the lengths, or of the halving's tests
  pub by_edition : (h.edition ≡ 2 → ⊥) → 13 ≡ first_of (replay_tests h ws cs ms answers splits ids)
  unfolding with_events
  by_edition d = rw (replay_number, ne_eqb h.edition 2 d)

  pub by_lengths : {n : ℕ} → h.edition ≡ 2 → n ≡ refusal_of h ws splits ids → lengths_off (length cs) (length ms ∷ length answers ∷ []) ≡ true
      → (eqb n 0 || eqb n 11) ≡ true → 5 ≡ first_of (replay_tests h ws cs ms answers splits ids)
  unfolding with_events lengths_too pick
  by_lengths e f g k = rw (replay_number, eq-eqb h.edition 2 e, g, ← f, k)

  pub by_halving : {n : ℕ} → h.edition ≡ 2 → n ≡ refusal_of h ws splits ids
      → (lengths_off (length cs) (length ms ∷ length answers ∷ []) && (eqb n 0 || eqb n 11)) ≡ false → n ≡ first_of (replay_tests h ws cs ms answers splits ids)
  unfolding with_events lengths_too pick
  by_halving e f g = rw (replay_number, eq-eqb h.edition 2 e, ← f, g)
