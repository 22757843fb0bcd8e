-- REQUEST 1/14 of the functions: whatever fits the contract of a call for parts has a number exactly as its tests say; a refused call leaves
-- the slices as they were, any other fair parts and the points in order. Assumes nothing.
use Rattle.rules.specs.Refusals.{number_in}
use Rattle.requests.specs.Parts.{PartsDemand}
use Rattle.demands.proofs.Parts.{parts_demand}
use Rattle.laws.proofs.Fitting.{Fitting}
use Rattle.parts.proofs.parts_along.Kinds as parts-along-kinds
use Rattle.parts.proofs.parts_along.Reads as parts-along-reads
use Rattle.skarvolm.proofs.skarvolm_parts.Kinds as skarvolm-parts-kinds
use Rattle.skarvolm.proofs.skarvolm_parts.Reads as skarvolm-parts-reads

-- parts_along(n, indices, weights, parts, order)
pub parts_along_meets : Fitting parts-along-kinds.ps parts-along-kinds.r parts-along-reads.Post
    (λ κs a y e. PartsDemand a.0 a.1.0.now a.1.1.0.now a.1.1.1.0.now a.1.1.1.1.0.now
    (record { number = number_in y; parts = e.1.1.1.0.now; order = e.1.1.1.1.0.now }))
parts_along_meets κs a y e p = rw (p.0, p.1.0, p.1.1) (parts_demand _ _ _ _ _)

-- skarvolm_parts(n, indices, weights, parts, order)
pub skarvolm_parts_meets : Fitting skarvolm-parts-kinds.ps skarvolm-parts-kinds.r skarvolm-parts-reads.Post
    (λ κs a y e. PartsDemand a.0 a.1.0.now a.1.1.0.now a.1.1.1.0.now a.1.1.1.1.0.now
    (record { number = y; parts = e.1.1.1.0.now; order = e.1.1.1.1.0.now }))
skarvolm_parts_meets κs a y e p = rw (p.0, p.1.0, p.1.1) (parts_demand _ _ _ _ _)
