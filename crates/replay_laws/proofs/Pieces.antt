-- A night replayed in two pieces, the second from the weights that the first left: the weights and answers are those of the whole night. The
-- ids need not be, for the second piece begins with a halving of its own.
use Prim.Native.Nat.{ℕ, zero, suc, ◌+◌, ◌<◌, ◌≤◌}
use native.Mathlib.Omega.{arith}
use native.Mathlib.Nat.{add-zero, add-suc}
use native.Mathlib.Numerals.{add-one}
use mathlib.Core.Path.{◌≡◌, sym, ◌∙◌}
use lib.ListN.{take, drop}
use lib.Seq.{get_or-take, get_or-drop}
use Rattle.requests.specs.Order.{at}
use Rattle.requests.specs.Replay.{Night, night, weights_at, answer_at}
use Rattle.replay_laws.specs.Events.{added}
use Rattle.replay_laws.proofs.History.{weights_first, weights_next}

-- the first m events, and the others from the weights after these
abbrev pub first_piece : Night → ℕ → Night
first_piece t m = night t.start (take m t.cells) (take m t.amounts)

abbrev pub second_piece : Night → ℕ → Night
second_piece t m = night (weights_at t m) (drop m t.cells) (drop m t.amounts)

next : (t : Night) (n : ℕ) → weights_at t (suc n) ≡ added (weights_at t n) (at t.cells n) (at t.amounts n)
next t n = rw (← add-one n) (weights_next t n)

module _ (t : Night) (m : ℕ) where
  pub first_weights : (n : ℕ) → n ≤ m → weights_at (first_piece t m) n ≡ weights_at t n
  first_weights zero l = weights_first (first_piece t m) ∙ sym (weights_first t)
  first_weights (suc n) l =
      next (first_piece t m) n
      ∙ rw (first_weights n (omega arith), get_or-take m t.cells n 0 (omega arith), get_or-take m t.amounts n 0 (omega arith)) (sym (next t n))

  pub first_answers : (n : ℕ) → n < m → answer_at (first_piece t m) n ≡ answer_at t n
  unfolding answer_at
  first_answers n l = rw (first_weights n (omega arith), get_or-take m t.cells n 0 l, get_or-take m t.amounts n 0 l)

  pub second_weights : (n : ℕ) → weights_at (second_piece t m) n ≡ weights_at t (m + n)
  second_weights zero = weights_first (second_piece t m) ∙ rw (add-zero m)
  second_weights (suc n) =
      next (second_piece t m) n ∙ rw (second_weights n, get_or-drop m t.cells n 0, get_or-drop m t.amounts n 0, add-suc m n) (sym (next t (m + n)))

  pub second_answers : (n : ℕ) → answer_at (second_piece t m) n ≡ answer_at t (m + n)
  unfolding answer_at
  second_answers n = rw (second_weights n, get_or-drop m t.cells n 0, get_or-drop m t.amounts n 0)
