-- After n events the running machine is where the plain one is.
use Prim.Native.Nat.{ℕ, ◌+◌, ◌<◌}
use mathlib.Core.Bool.{cond}
use mathlib.Core.Path.{◌≡◌, refl, ap, sym, ◌∙◌}
use mathlib.Core.List.{List, [], ◌++◌, append-nil}
use lib.ListN.{length, drop, set}
use lib.Seq.{drop-length}
use Rattle.rules.specs.Sums.{list}
use Rattle.rules.specs.Halving.{Halving, splits_by, ids_by}
use Rattle.requests.specs.Order.{at}
use Rattle.requests.specs.Replay.{Night, answer_to, said_at, weights_at, answer_at, halved_at, splits_at, ids_at}
use Rattle.laws.proofs.Lists.{list_more}
use Rattle.replay_laws.specs.Events.{added, anew_after}
use Rattle.replay_laws.specs.InForce.{InForce}
use Rattle.replay_laws.proofs.History.{said_is, weights_first, weights_next}
use Rattle.replay_laws.proofs.InForce.{resplit, in_force_next, made_next}
use Rattle.replay_state.specs.declared.Running.{Running}
use Rattle.replay_state.specs.Runs.{Runs}

-- of answers that were out₀ at the start
pub record Went (h : Halving) (t : Night) (out₀ : List ℕ) (n : ℕ) (ws out ss is : List ℕ) (r : Running) : Type 0 where
  pub weights : ws ≡ weights_at t n
  pub answers : out ≡ list (answer_at t) n ++ drop n out₀
  pub splits : ss ≡ splits_at h t n
  pub ids : is ≡ ids_at h t n
  pub holds : InForce h ws ss is
  pub runs : Runs h ws is r

module _ (h : Halving) (t : Night) (out₀ : List ℕ) where
  pub at_first : {splits ids : List ℕ} {r : Running} → splits ≡ splits_by h t.start → ids ≡ ids_by h t.start → InForce h t.start splits ids
      → Runs h t.start ids r → Went h t out₀ 0 t.start out₀ splits ids r
  unfolding halved_at list
  at_first c d g k =
      record {
        weights = sym (weights_first t);
        answers = refl;
        splits = c ∙ ap (splits_by h) (sym (weights_first t));
        ids = d ∙ ap (ids_by h) (sym (weights_first t));
        holds = g;
        runs = k;
      }

  module _ {n : ℕ} {ws out splits ids : List ℕ} {r : Running} (w : Went h t out₀ n ws out splits ids r) where
    -- one event more, as a step takes it
    pub one_more : {said : ℕ} {ws' splits' ids' : List ℕ} {r' : Running} → n < length out₀
        → said ≡ answer_to ws (at t.cells n) (at t.amounts n) → ws' ≡ added ws (at t.cells n) (at t.amounts n)
        → splits' ≡ cond (anew_after h ws (at t.cells n) (at t.amounts n) ids) (splits_by h (added ws (at t.cells n) (at t.amounts n))) splits
        → ids' ≡ cond (anew_after h ws (at t.cells n) (at t.amounts n) ids) (ids_by h (added ws (at t.cells n) (at t.amounts n))) ids
        → length splits' ≡ length splits → Runs h ws' ids' r' → Went h t out₀ (n + 1) ws' (set out n said) splits' ids' r'
    unfolding answer_at
    one_more l a b c d g k =
        record {
          weights = b ∙ rw w.weights (sym (weights_next t n));
          answers = rw (w.answers, a, w.weights) (list_more (answer_at t) out₀ n l);
          splits = c ∙ rw (w.splits, w.ids, w.weights, ← weights_next t n) (sym (made_next h t (splits_by h) n));
          ids = d ∙ rw (w.ids, w.weights, ← weights_next t n) (sym (made_next h t (ids_by h) n));
          holds = rw (b, d) (resplit (in_force_next w.holds (at t.cells n) (at t.amounts n)) g);
          runs = k;
        }

    -- after the last event every answer is written
    pub all_said : n ≡ length out₀ → out ≡ said_at t n
    all_said e = w.answers ∙ rw (nothing e) (append-nil _) ∙ sym (said_is t n)
      where
        nothing : n ≡ length out₀ → drop n out₀ ≡ []
        nothing e = rw e (drop-length out₀)
