-- No second answer fits the contract of a public function: neither another number nor other indices. Assumes nothing.
use Rattle.laws.proofs.Only.{OnlyLeaving, same}
use Rattle.laws.proofs.Numbers.{same_answer}
use Rattle.knots_on.proofs.index_2d_on.Kinds as index-2d-on-kinds
use Rattle.knots_on.proofs.index_2d_on.Reads as index-2d-on-reads
use Rattle.knots_on.proofs.index_2d_in.Kinds as index-2d-in-kinds
use Rattle.knots_on.proofs.index_2d_in.Reads as index-2d-in-reads
use Rattle.knots_on.proofs.index_3d_on.Kinds as index-3d-on-kinds
use Rattle.knots_on.proofs.index_3d_on.Reads as index-3d-on-reads
use Rattle.knots_on.proofs.index_3d_in.Kinds as index-3d-in-kinds
use Rattle.knots_on.proofs.index_3d_in.Reads as index-3d-in-reads

pub index_2d_on_only : OnlyLeaving index-2d-on-kinds.ps index-2d-on-kinds.r index-2d-on-reads.Post (λ κs e. e.1.1.1.1.1.0.now)
index_2d_on_only κs a y z e f p q = (same_answer y z (same p.0 q.0), same p.1 q.1)

pub index_2d_in_only : OnlyLeaving index-2d-in-kinds.ps index-2d-in-kinds.r index-2d-in-reads.Post (λ κs e. e.1.1.1.1.1.0.now)
index_2d_in_only κs a y z e f p q = (same_answer y z (same p.0 q.0), same p.1 q.1)

pub index_3d_on_only : OnlyLeaving index-3d-on-kinds.ps index-3d-on-kinds.r index-3d-on-reads.Post (λ κs e. e.1.1.1.1.1.1.1.0.now)
index_3d_on_only κs a y z e f p q = (same_answer y z (same p.0 q.0), same p.1 q.1)

pub index_3d_in_only : OnlyLeaving index-3d-in-kinds.ps index-3d-in-kinds.r index-3d-in-reads.Post (λ κs e. e.1.1.1.1.1.1.1.0.now)
index_3d_in_only κs a y z e f p q = (same_answer y z (same p.0 q.0), same p.1 q.1)
