-- No second outcome fits the contract of a function that another crate calls, as far as Known says. Assumes nothing.
use mathlib.Core.Path.{refl}
use mathlib.Core.List.{List}
use Rattle.std.specs.Prelude.{ℕ}
use Rattle.laws.proofs.Numbers.{same_answer}
use Rattle.laws.proofs.Only.{OnlyLeaving, same, both}
use Rattle.replay_state.proofs.Known.{Known, known, runs_once}
use Rattle.replay_state.proofs.Running.begin.Kinds as begin-kinds
use Rattle.replay_state.proofs.Running.begin.Reads as begin-reads
use Rattle.replay_state.proofs.Running.anew.Kinds as anew-kinds
use Rattle.replay_state.proofs.Running.anew.Reads as anew-reads
use Rattle.replay_state.proofs.Running.step.Kinds as step-kinds
use Rattle.replay_state.proofs.Running.step.Reads as step-reads

-- the splits and ids, and what is known
pub begin_leaves : OnlyLeaving {A = (List ℕ × List ℕ) × Known} begin-kinds.ps begin-kinds.r begin-reads.Post
    (λ κs e. ((e.1.1.1.0.now, e.1.1.1.1.0.now), known e.0.now))
begin_leaves κs a y z e f p q = (refl, both (both (same p.0 q.0) (same p.1.0 q.1.0)) (runs_once refl (same p.1.0 q.1.0) p.1.1 q.1.1))

pub anew_leaves : OnlyLeaving {A = (List ℕ × List ℕ) × Known} anew-kinds.ps anew-kinds.r anew-reads.Post
    (λ κs e. ((e.1.1.1.0.now, e.1.1.1.1.0.now), known e.0.now))
anew_leaves κs a y z e f p q = (refl, both (both (same p.0 q.0) (same p.1.0 q.1.0)) (runs_once refl (same p.1.0 q.1.0) p.1.1 q.1.1))

-- the answer, the weights, splits and ids, and what is known
pub step_leaves : OnlyLeaving {A = (List ℕ × (List ℕ × List ℕ)) × Known} step-kinds.ps step-kinds.r step-reads.Post
    (λ κs e. ((e.1.1.0.now, (e.1.1.1.0.now, e.1.1.1.1.0.now)), known e.0.now))
step_leaves κs a y z e f p q =
    let ws = same p.1.0 q.1.0 in
    let ids = same p.1.1.1.0 q.1.1.1.0 in
    (same_answer y z (same p.0 q.0), both (both ws (both (same p.1.1.0 q.1.1.0) ids)) (runs_once ws ids p.1.1.1.1 q.1.1.1.1))
