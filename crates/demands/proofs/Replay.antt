-- REQUEST 12/14, a bench night replayed: "start from an edition 2 halving of the starting weights, with its refusals", "an event outside the
-- grid (refusal 20) or taking a cell over 16,777,215 (refusal 11, tested second) .. changes nothing else", "prove that the bounds hold after each
-- event, that each cell's weight is its start plus the accepted amounts". That weights, answers, splits and ids at the end equal those of a
-- plain machine that works out all sums from the history is the contract of the functions: `replay` is that machine. Assumes nothing.
use Prim.Native.Nat.{ℕ, suc, ◌+◌, ◌<◌, ◌≤◌}
use native.Mathlib.Numerals.{add-one}
use mathlib.Core.Path.{◌≡◌, refl, ap, ◌∙◌}
use mathlib.Core.Bool.{◌&&◌}
use mathlib.Core.List.{List}
use lib.Dec.{eqb, lit≤}
use lib.ListN.{length}
use Rattle.rules.specs.Sums.{sum_where}
use Rattle.rules.specs.Refusals.{first_of}
use Rattle.rules.specs.Halving.{Halving, halving2, halving3, splits_by, ids_by}
use Rattle.rules.specs.Demands.{Exactly, Demand3}
use Rattle.rules.specs.declared.Halving2.{Halving2}
use Rattle.rules.specs.declared.Halving3.{Halving3}
use Rattle.requests.specs.Order.{at}
use Rattle.requests.specs.Replay.{Night, night, weight_by, weights_by, said_at, weights_at, halved_at, ids_at, event_tests, answer_to, replay_tests, replay, Unchanged, ReplayDemand}
use Rattle.laws.proofs.Exactly.{exactly, untouched}
use Rattle.laws.proofs.Lists.{get_or_list}
use Rattle.replay_laws.proofs.History.{said_length, weights_refused}
use Rattle.replay_laws.proofs.InForce.{fresh, in_force_demand, in_force_after, halved_refused}
use Rattle.replay_laws.proofs.Accepted.{replay_accepted, answered}

-- an event's answer is exactly as its two tests say
pub event_answer : (ws : List ℕ) (cell amount : ℕ) → Exactly (event_tests ws cell amount) (answer_to ws cell amount)
unfolding event_tests
event_answer ws cell amount = exactly (event_tests ws cell amount)

module _ (h : Halving) (t : Night) (n : ℕ) where
  unchanged : Unchanged h t n
  unchanged l =
      let w : weights_at t (suc n) ≡ weights_at t n = rw (← add-one n) (weights_refused t n l) in
      let e : halved_at h t (suc n) ≡ halved_at h t n = rw (← add-one n) (halved_refused h t n l) in
      (w, ap (λ (m : ℕ). splits_by h (weights_at t m)) e, ap (λ (m : ℕ). ids_by h (weights_at t m)) e)

module _ (h : Halving) (axes : length h.sides ≤ 3) (ws cs ms answers splits ids : List ℕ) where
  tested : Exactly (replay_tests h ws cs ms answers splits ids) (replay h ws cs ms answers splits ids).number
  unfolding replay replay_tests
  tested = exactly (replay_tests h ws cs ms answers splits ids)

  left : let after = replay h ws cs ms answers splits ids in
      0 < after.number → (after.weights ≡ ws) × (after.answers ≡ answers) × (after.splits ≡ splits) × (after.ids ≡ ids)
  unfolding replay
  left l = (untouched _ _ ws l, untouched _ _ answers l, untouched _ _ splits l, untouched _ _ ids l)

  -- the number of the tests is the call's
  passed : (replay h ws cs ms answers splits ids).number ≡ 0 → first_of (replay_tests h ws cs ms answers splits ids) ≡ 0
  unfolding replay
  passed e = e

  each : first_of (replay_tests h ws cs ms answers splits ids) ≡ 0 → (n : ℕ) → Demand3 h.sides (weights_at (night ws cs ms) n) h.depth (ids_at h (night ws cs ms) n)
  each e n = in_force_demand {splits = splits} (in_force_after h (night ws cs ms) (fresh (replay_accepted h ws cs ms answers splits ids e) axes refl refl) n)

  -- a cell's weight, by the answers that are left
  history : (n c : ℕ) → c < length ws
      → at (weights_at (night ws cs ms) n) c ≡ at ws c + sum_where (λ j. eqb (at (said_at (night ws cs ms) n) j) 0 && eqb (at cs j) c) (at ms) n
  unfolding weights_at weights_by weight_by
  history n c l = get_or_list (weight_by (night ws cs ms) (said_at (night ws cs ms) n)) (length ws) c 0 l ∙ rw (said_length (night ws cs ms) n)

  pub replay_demand : ReplayDemand h ws cs ms answers splits ids (replay h ws cs ms answers splits ids)
  replay_demand = record {
    number = tested;
    untouched = left;
    each = λ e n. each (passed e) n;
    unchanged = λ e n. unchanged h (night ws cs ms) n;
    history = λ e c l. rw (answered h ws cs ms answers splits ids (passed e)) (history (length cs) c l);
    last = λ e. rw (answered h ws cs ms answers splits ids (passed e)) (each (passed e) (length cs));
  }

-- in 2D and 3D
pub replay_demand_2d : (h : Halving2) (ws cs ms answers splits ids : List ℕ) → ReplayDemand (halving2 h) ws cs ms answers splits ids (replay (halving2 h) ws cs ms answers splits ids)
replay_demand_2d h = replay_demand (halving2 h) (lit≤ tt)

pub replay_demand_3d : (h : Halving3) (ws cs ms answers splits ids : List ℕ) → ReplayDemand (halving3 h) ws cs ms answers splits ids (replay (halving3 h) ws cs ms answers splits ids)
replay_demand_3d h = replay_demand (halving3 h) (lit≤ tt)
