-- No second outcome fits the contract of a function that another crate calls: neither another refusal nor other weights, answers, splits or
-- ids. Assumes nothing.
use Prim.Native.Nat.{ℕ}
use mathlib.Core.Path.{refl}
use mathlib.Core.List.{List}
use Rattle.laws.proofs.Numbers.{same_answer}
use Rattle.laws.proofs.Only.{OnlyLeaving, same, both}
use Rattle.replay_run.proofs.night.Kinds as night-kinds
use Rattle.replay_run.proofs.night.Reads as night-reads
use Rattle.replay_run.proofs.replay.Kinds as replay-kinds
use Rattle.replay_run.proofs.replay.Reads as replay-reads

-- what a call leaves: weights and answers, splits and ids
abbrev Left : Type 0
Left = (List ℕ × List ℕ) × (List ℕ × List ℕ)

pub night_only : OnlyLeaving {A = Left} night-kinds.ps night-kinds.r night-reads.Post
    (λ κs e. ((e.1.0.now, e.1.1.1.1.0.now), (e.1.1.1.1.1.0.now, e.1.1.1.1.1.1.0.now)))
night_only κs a y z e f p q =
    (refl, both (both (same p.0 q.0) (same p.1.0 q.1.0)) (both (same p.1.1.0 q.1.1.0) (same p.1.1.1 q.1.1.1)))

pub replay_only : OnlyLeaving {A = Left} replay-kinds.ps replay-kinds.r replay-reads.Post
    (λ κs e. ((e.1.0.now, e.1.1.1.1.0.now), (e.1.1.1.1.1.0.now, e.1.1.1.1.1.1.0.now)))
replay_only κs a y z e f p q =
    (same_answer y z (same p.0 q.0), both (both (same p.1.0 q.1.0) (same p.1.1.0 q.1.1.0)) (both (same p.1.1.1.0 q.1.1.1.0) (same p.1.1.1.1 q.1.1.1.1)))
