-- No second outcome fits the contract of a public function: neither another refusal nor other weights, answers, splits or ids. Assumes nothing.
use Prim.Native.Nat.{ℕ}
use mathlib.Core.List.{List}
use Rattle.laws.proofs.Numbers.{same_answer}
use Rattle.laws.proofs.Only.{OnlyLeaving, same, both}
use Rattle.replay.proofs.replay_2d.Kinds as replay-2d-kinds
use Rattle.replay.proofs.replay_2d.Reads as replay-2d-reads
use Rattle.replay.proofs.replay_3d.Kinds as replay-3d-kinds
use Rattle.replay.proofs.replay_3d.Reads as replay-3d-reads

-- what a call leaves: weights and answers, splits and ids
abbrev Left : Type 0
Left = (List ℕ × List ℕ) × (List ℕ × List ℕ)

pub replay_2d_only : OnlyLeaving {A = Left} replay-2d-kinds.ps replay-2d-kinds.r replay-2d-reads.Post
    (λ κs e. ((e.1.0.now, e.1.1.1.1.0.now), (e.1.1.1.1.1.0.now, e.1.1.1.1.1.1.0.now)))
replay_2d_only κs a y z e f p q =
    (same_answer y z (same p.0 q.0), both (both (same p.1.0 q.1.0) (same p.1.1.0 q.1.1.0)) (both (same p.1.1.1.0 q.1.1.1.0) (same p.1.1.1.1 q.1.1.1.1)))

pub replay_3d_only : OnlyLeaving {A = Left} replay-3d-kinds.ps replay-3d-kinds.r replay-3d-reads.Post
    (λ κs e. ((e.1.0.now, e.1.1.1.1.0.now), (e.1.1.1.1.1.0.now, e.1.1.1.1.1.1.0.now)))
replay_3d_only κs a y z e f p q =
    (same_answer y z (same p.0 q.0), both (both (same p.1.0 q.1.0) (same p.1.1.0 q.1.1.0)) (both (same p.1.1.1.0 q.1.1.1.0) (same p.1.1.1.1 q.1.1.1.1)))
