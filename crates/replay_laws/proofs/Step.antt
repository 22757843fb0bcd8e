-- What an event comes to, as the running machine goes through it: refused, accepted with no bound broken, or halved afresh.
use Prim.Native.Nat.{ℕ, ◌<◌}
use native.Mathlib.Omega.{arith}
use mathlib.Core.Bool.{true, false, cond}
use mathlib.Core.Path.{◌≡◌, ◌∙◌}
use mathlib.Core.List.{List}
use borrow.Author.Tests.{eq-eqb, ne_eqb}
use Rattle.rules.specs.Halving.{Halving}
use Rattle.requests.specs.Replay.{answer_to, broken}
use Rattle.tally_laws.specs.Weighed.{heavier}
use Rattle.replay_laws.specs.Events.{added, anew_after}
use Rattle.replay_laws.proofs.Events.{added_is}

module _ (h : Halving) (ws : List ℕ) (cell amount : ℕ) (ids : List ℕ) where
  refused_not : 0 < answer_to ws cell amount → anew_after h ws cell amount ids ≡ false
  unfolding anew_after
  refused_not l = rw (ne_eqb (answer_to ws cell amount) 0 (λ z. omega arith))

  accepted_if : answer_to ws cell amount ≡ 0 → anew_after h ws cell amount ids ≡ broken h (heavier ws cell amount) ids
  unfolding anew_after
  accepted_if e = rw (added_is ws cell amount e, eq-eqb (answer_to ws cell amount) 0 e)

  -- a refused event, or one after which no bound is broken, leaves a slice as it was
  pub left_refused : (a b : List ℕ) → 0 < answer_to ws cell amount → b ≡ cond (anew_after h ws cell amount ids) a b
  left_refused a b l = rw (refused_not l)

  pub left_kept : (a b : List ℕ) → answer_to ws cell amount ≡ 0 → broken h (heavier ws cell amount) ids ≡ false → b ≡ cond (anew_after h ws cell amount ids) a b
  left_kept a b e f = rw (accepted_if e, f)

  -- else it is that of a fresh halving
  pub made_anew : (f : List ℕ → List ℕ) {a : List ℕ} (b : List ℕ) → answer_to ws cell amount ≡ 0 → broken h (heavier ws cell amount) ids ≡ true → a ≡ f (heavier ws cell amount)
      → a ≡ cond (anew_after h ws cell amount ids) (f (added ws cell amount)) b
  made_anew f b e g p = p ∙ rw (accepted_if e, g, added_is ws cell amount e)
