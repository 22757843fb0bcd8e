-- No second answer fits the contract of a public function: neither another number nor other indices. Assumes nothing.
use Rattle.laws.proofs.Only.{OnlyLeaving, same}
use Rattle.laws.proofs.Numbers.{same_answer}
use Rattle.knots_over.proofs.index_2d.Kinds as index-2d-kinds
use Rattle.knots_over.proofs.index_2d.Reads as index-2d-reads
use Rattle.knots_over.proofs.index_2d_default.Kinds as index-2d-default-kinds
use Rattle.knots_over.proofs.index_2d_default.Reads as index-2d-default-reads
use Rattle.knots_over.proofs.index_3d.Kinds as index-3d-kinds
use Rattle.knots_over.proofs.index_3d.Reads as index-3d-reads
use Rattle.knots_over.proofs.index_3d_default.Kinds as index-3d-default-kinds
use Rattle.knots_over.proofs.index_3d_default.Reads as index-3d-default-reads

pub index_2d_only : OnlyLeaving index-2d-kinds.ps index-2d-kinds.r index-2d-reads.Post (λ κs e. e.1.1.1.0.now)
index_2d_only κs a y z e f p q = (same_answer y z (same p.0 q.0), same p.1 q.1)

pub index_2d_default_only : OnlyLeaving index-2d-default-kinds.ps index-2d-default-kinds.r index-2d-default-reads.Post (λ κs e. e.1.1.0.now)
index_2d_default_only κs a y z e f p q = (same_answer y z (same p.0 q.0), same p.1 q.1)

pub index_3d_only : OnlyLeaving index-3d-kinds.ps index-3d-kinds.r index-3d-reads.Post (λ κs e. e.1.1.1.1.0.now)
index_3d_only κs a y z e f p q = (same_answer y z (same p.0 q.0), same p.1 q.1)

pub index_3d_default_only : OnlyLeaving index-3d-default-kinds.ps index-3d-default-kinds.r index-3d-default-reads.Post (λ κs e. e.1.1.1.0.now)
index_3d_default_only κs a y z e f p q = (same_answer y z (same p.0 q.0), same p.1 q.1)
