-- Weights that are worked out from the history are, after one event more, those before it with the event's amount, where it is accepted.
use Prim.Native.Nat.{ℕ, zero, suc, ◌+◌, ◌<◌}
use native.Mathlib.Omega.{arith}
use native.Mathlib.Nat.{add-zero}
use native.Mathlib.Numerals.{add-one}
use mathlib.Core.Bool.{◌&&◌}
use mathlib.Core.Path.{◌≡◌, refl, ap, sym, ◌∙◌}
use mathlib.Core.List.{List, [], ◌∷◌, ◌++◌}
use lib.Dec.{eqb}
use lib.ListN.{length}
use lib.Seq.{ext_get_or}
use Rattle.rules.specs.Sums.{total, sum_where, list}
use Rattle.requests.specs.Order.{at}
use Rattle.requests.specs.Replay.{Night, weight_by, weights_by, said_at, weights_at, answer_at}
use Rattle.laws.proofs.Lists.{length_list, get_or_list}
use Rattle.laws.proofs.Totals.{where_ext}
use Rattle.replay_laws.specs.Events.{added}
use Rattle.replay_laws.proofs.Events.{added_not, added_length, added_at}

module _ (t : Night) where
  -- the answers are one for each event
  pub said_is : (n : ℕ) → said_at t n ≡ list (answer_at t) n
  unfolding said_at list answer_at weights_at
  said_is zero = refl
  said_is (suc n) = ap (λ (l : List ℕ). l ++ (answer_at t n ∷ [])) (said_is n)

  pub said_length : (n : ℕ) → length (said_at t n) ≡ n
  said_length n = ap length (said_is n) ∙ length_list (answer_at t) n

  at-said_at : (n j : ℕ) → j < n → at (said_at t n) j ≡ answer_at t j
  at-said_at n j l = rw (said_is n) (get_or_list (answer_at t) n j 0 l)

  -- a cell's weight, by the answers one by one
  pub weight_is : (n c : ℕ) → weight_by t (said_at t n) c ≡ at t.start c + sum_where (λ j. eqb (answer_at t j) 0 && eqb (at t.cells j) c) (at t.amounts) n
  unfolding weight_by
  weight_is n c =
      rw (said_length n)
      (ap (λ (v : ℕ). at t.start c + v)
      (where_ext (at t.amounts) n (λ j. eqb (at (said_at t n) j) 0 && eqb (at t.cells j) c) (λ j. eqb (answer_at t j) 0 && eqb (at t.cells j) c)
      (λ j l. ap (λ (v : ℕ). eqb v 0 && eqb (at t.cells j) c) (at-said_at n j l))))

  pub weights_length : (n : ℕ) → length (weights_at t n) ≡ length t.start
  unfolding weights_at weights_by
  weights_length n = length_list _ (length t.start)

  -- each cell's weight is its start plus the accepted amounts
  pub history : (n c : ℕ) → c < length t.start
      → at (weights_at t n) c ≡ at t.start c + sum_where (λ j. eqb (answer_at t j) 0 && eqb (at t.cells j) c) (at t.amounts) n
  unfolding weights_at weights_by
  history n c l = get_or_list (weight_by t (said_at t n)) (length t.start) c 0 l ∙ weight_is n c

  pub weights_first : weights_at t 0 ≡ t.start
  unfolding total
  weights_first = ext_get_or 0 _ _ (weights_length 0) (λ c l. history 0 c (rw (weights_length 0) at l) ∙ add-zero _)

  pub weights_next : (n : ℕ) → weights_at t (n + 1) ≡ added (weights_at t n) (at t.cells n) (at t.amounts n)
  unfolding total answer_at
  weights_next n =
      ext_get_or 0 _ _ (weights_length (n + 1) ∙ sym (weights_length n) ∙ sym (added_length (weights_at t n) (at t.cells n) (at t.amounts n)))
      (λ c l.
      let q : c < length t.start = rw (weights_length (n + 1)) at l in
      history (n + 1) c q ∙ rw (add-one, added_at (weights_at t n) (at t.cells n) (at t.amounts n) c, history n c q) (omega arith))

  -- a refused event changes no weight
  pub weights_refused : (n : ℕ) → 0 < answer_at t n → weights_at t (n + 1) ≡ weights_at t n
  unfolding answer_at
  weights_refused n l = weights_next n ∙ added_not (weights_at t n) (at t.cells n) (at t.amounts n) l
