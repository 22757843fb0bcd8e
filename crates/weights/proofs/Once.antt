-- No second answer fits the contract of a function that another crate calls. Assumes nothing.
use Rattle.laws.proofs.Only.{Only, same}
use Rattle.weights.proofs.weight_over.Kinds as weight-over-kinds
use Rattle.weights.proofs.weight_over.Reads as weight-over-reads
use Rattle.weights.proofs.lengths_off.Kinds as lengths-off-kinds
use Rattle.weights.proofs.lengths_off.Reads as lengths-off-reads

pub weight_over_only : Only weight-over-kinds.ps weight-over-kinds.r weight-over-reads.Post
weight_over_only κs a y z e f p q = same p q

pub lengths_off_only : Only lengths-off-kinds.ps lengths-off-kinds.r lengths-off-reads.Post
lengths_off_only κs a y z e f p q = same p q
