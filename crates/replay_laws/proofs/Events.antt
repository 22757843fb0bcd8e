-- An event is refused outside the grid, or where its cell would be too heavy; else its cell gets its amount.
use Prim.Native.Nat.{ℕ, ◌+◌, ◌≤◌, ◌<◌}
use native.Mathlib.Omega.{arith}
use native.Mathlib.Nat.{eq-zero-or-pos, add-zero}
use mathlib.Core.Bool.{◌&&◌}
use mathlib.Core.Logic.{⊎_elim}
use mathlib.Core.Path.{◌≡◌, sym}
use mathlib.Core.List.{List}
use lib.Dec.{eqb}
use lib.ListN.{get_or, length, length-set}
use borrow.Author.Tests.{le-leb, lt-leb, lt-ltb, le-ltb, leb-false, ltb-false, eq-eqb, ne_eqb}
use Rattle.rules.specs.Sums.{pick}
use Rattle.rules.specs.Refusals.{top_weight, slice_by}
use Rattle.requests.specs.Replay.{event_tests, answer_to}
use Rattle.laws.proofs.Exactly.{none_passes, untouched}
use Rattle.tally_laws.specs.Weighed.{heavier, Takes}
use Rattle.tally_laws.proofs.Lines.{raised_at}
use Rattle.replay_laws.specs.Events.{added}

module _ (ws : List ℕ) (cell amount : ℕ) where
  pub outside : length ws ≤ cell → 20 ≡ answer_to ws cell amount
  unfolding event_tests
  outside h = rw (le-leb _ _ h)

  pub too_much : cell < length ws → top_weight < get_or ws cell 0 + amount → 11 ≡ answer_to ws cell amount
  unfolding event_tests
  too_much l h = rw (lt-leb _ _ l, lt-ltb _ _ h)

  pub taken : cell < length ws → get_or ws cell 0 + amount ≤ top_weight → 0 ≡ answer_to ws cell amount
  unfolding event_tests
  taken l h = rw (lt-leb _ _ l, le-ltb _ _ h)

  -- what an answer of 0 tells
  pub told : answer_to ws cell amount ≡ 0 → Takes ws cell amount
  unfolding event_tests
  told e =
      let none = none_passes (event_tests ws cell amount) e in
      record { inside = leb-false _ _ none.0; light = ltb-false _ _ none.1.0 }

  pub added_is : answer_to ws cell amount ≡ 0 → added ws cell amount ≡ heavier ws cell amount
  unfolding added slice_by
  added_is e = rw e

  pub added_not : 0 < answer_to ws cell amount → added ws cell amount ≡ ws
  unfolding added
  added_not h = untouched (answer_to ws cell amount) _ ws h

  pub added_length : length (added ws cell amount) ≡ length ws
  added_length =
      ⊎_elim (λ (e : answer_to ws cell amount ≡ 0). rw (added_is e) (length-set ws cell _))
      (λ (h : 0 < answer_to ws cell amount). rw (added_not h)) (eq-zero-or-pos (answer_to ws cell amount))

  -- an event adds its amount to its cell, where it is accepted
  pub added_at : (c : ℕ) → get_or (added ws cell amount) c 0 ≡ get_or ws c 0 + pick (eqb (answer_to ws cell amount) 0 && eqb cell c) amount 0
  unfolding pick
  added_at c = ⊎_elim yes no (eq-zero-or-pos (answer_to ws cell amount))
    where
      yes : answer_to ws cell amount ≡ 0 → get_or (added ws cell amount) c 0 ≡ get_or ws c 0 + pick (eqb (answer_to ws cell amount) 0 && eqb cell c) amount 0
      yes e = rw (added_is e, eq-eqb (answer_to ws cell amount) 0 e) (raised_at ws cell amount c (told e).inside)

      no : 0 < answer_to ws cell amount → get_or (added ws cell amount) c 0 ≡ get_or ws c 0 + pick (eqb (answer_to ws cell amount) 0 && eqb cell c) amount 0
      no h = rw (added_not h, ne_eqb (answer_to ws cell amount) 0 (λ z. omega arith)) (sym (add-zero _))
