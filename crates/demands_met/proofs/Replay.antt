-- REQUEST 12/14 of the functions: whatever fits the contract of a call for a replay has a number exactly as its tests say; a refused call leaves
-- the slices as they were; in any other the ids in force meet demand 3 after each event, a refused event changes nothing, and each cell's
-- weight at the end is its start plus the accepted amounts. Assumes nothing.
use Rattle.rules.specs.Refusals.{number_in}
use Rattle.rules.specs.Halving.{halving2, halving3}
use Rattle.requests.specs.Replay.{ReplayDemand}
use Rattle.demands.proofs.Replay.{replay_demand_2d, replay_demand_3d}
use Rattle.laws.proofs.Fitting.{Fitting}
use Rattle.replay.proofs.replay_2d.Kinds as replay-2d-kinds
use Rattle.replay.proofs.replay_2d.Reads as replay-2d-reads
use Rattle.replay.proofs.replay_3d.Kinds as replay-3d-kinds
use Rattle.replay.proofs.replay_3d.Reads as replay-3d-reads
use Rattle.skarvolm.proofs.skarvolm_replay_2d.Kinds as skarvolm-replay-2d-kinds
use Rattle.skarvolm.proofs.skarvolm_replay_2d.Reads as skarvolm-replay-2d-reads
use Rattle.skarvolm.proofs.skarvolm_replay_3d.Kinds as skarvolm-replay-3d-kinds
use Rattle.skarvolm.proofs.skarvolm_replay_3d.Reads as skarvolm-replay-3d-reads

-- replay_2d(halving, weights, cells, amounts, answers, splits, ids)
pub replay_2d_meets : Fitting replay-2d-kinds.ps replay-2d-kinds.r replay-2d-reads.Post
    (λ κs a y e. ReplayDemand (halving2 a.0) a.1.0.now a.1.1.0.now a.1.1.1.0.now a.1.1.1.1.0.now a.1.1.1.1.1.0.now a.1.1.1.1.1.1.0.now
    (record { number = number_in y; weights = e.1.0.now; answers = e.1.1.1.1.0.now; splits = e.1.1.1.1.1.0.now; ids = e.1.1.1.1.1.1.0.now }))
replay_2d_meets κs a y e p =
    rw (p.0, p.1.0, p.1.1.0, p.1.1.1.0, p.1.1.1.1)
    (replay_demand_2d a.0 a.1.0.now a.1.1.0.now a.1.1.1.0.now a.1.1.1.1.0.now a.1.1.1.1.1.0.now a.1.1.1.1.1.1.0.now)

-- replay_3d(halving, weights, cells, amounts, answers, splits, ids)
pub replay_3d_meets : Fitting replay-3d-kinds.ps replay-3d-kinds.r replay-3d-reads.Post
    (λ κs a y e. ReplayDemand (halving3 a.0) a.1.0.now a.1.1.0.now a.1.1.1.0.now a.1.1.1.1.0.now a.1.1.1.1.1.0.now a.1.1.1.1.1.1.0.now
    (record { number = number_in y; weights = e.1.0.now; answers = e.1.1.1.1.0.now; splits = e.1.1.1.1.1.0.now; ids = e.1.1.1.1.1.1.0.now }))
replay_3d_meets κs a y e p =
    rw (p.0, p.1.0, p.1.1.0, p.1.1.1.0, p.1.1.1.1)
    (replay_demand_3d a.0 a.1.0.now a.1.1.0.now a.1.1.1.0.now a.1.1.1.1.0.now a.1.1.1.1.1.0.now a.1.1.1.1.1.1.0.now)

-- skarvolm_replay_2d(width, height, first, depth, weights, cells, amounts, answers, splits, ids)
pub skarvolm_replay_2d_meets : Fitting skarvolm-replay-2d-kinds.ps skarvolm-replay-2d-kinds.r skarvolm-replay-2d-reads.Post
    (λ κs a y e. ReplayDemand (halving2 (record { edition = 2; width = a.0; height = a.1.0; first = a.1.1.0; depth = a.1.1.1.0 })) a.1.1.1.1.0.now a.1.1.1.1.1.0.now a.1.1.1.1.1.1.0.now a.1.1.1.1.1.1.1.0.now a.1.1.1.1.1.1.1.1.0.now a.1.1.1.1.1.1.1.1.1.0.now
    (record { number = y; weights = e.1.1.1.1.0.now; answers = e.1.1.1.1.1.1.1.0.now; splits = e.1.1.1.1.1.1.1.1.0.now; ids = e.1.1.1.1.1.1.1.1.1.0.now }))
skarvolm_replay_2d_meets κs a y e p =
    rw (p.0, p.1.0, p.1.1.0, p.1.1.1.0, p.1.1.1.1)
    (replay_demand_2d _ a.1.1.1.1.0.now a.1.1.1.1.1.0.now a.1.1.1.1.1.1.0.now a.1.1.1.1.1.1.1.0.now a.1.1.1.1.1.1.1.1.0.now a.1.1.1.1.1.1.1.1.1.0.now)

-- skarvolm_replay_3d(width, height, layers, first, depth, weights, cells, amounts, answers, splits, ids)
pub skarvolm_replay_3d_meets : Fitting skarvolm-replay-3d-kinds.ps skarvolm-replay-3d-kinds.r skarvolm-replay-3d-reads.Post
    (λ κs a y e. ReplayDemand (halving3 (record { edition = 2; width = a.0; height = a.1.0; layers = a.1.1.0; first = a.1.1.1.0; depth = a.1.1.1.1.0 })) a.1.1.1.1.1.0.now a.1.1.1.1.1.1.0.now a.1.1.1.1.1.1.1.0.now a.1.1.1.1.1.1.1.1.0.now a.1.1.1.1.1.1.1.1.1.0.now a.1.1.1.1.1.1.1.1.1.1.0.now
    (record { number = y; weights = e.1.1.1.1.1.0.now; answers = e.1.1.1.1.1.1.1.1.0.now; splits = e.1.1.1.1.1.1.1.1.1.0.now; ids = e.1.1.1.1.1.1.1.1.1.1.0.now }))
skarvolm_replay_3d_meets κs a y e p =
    rw (p.0, p.1.0, p.1.1.0, p.1.1.1.0, p.1.1.1.1)
    (replay_demand_3d _ a.1.1.1.1.1.0.now a.1.1.1.1.1.1.0.now a.1.1.1.1.1.1.1.0.now a.1.1.1.1.1.1.1.1.0.now a.1.1.1.1.1.1.1.1.1.0.now a.1.1.1.1.1.1.1.1.1.1.0.now)
