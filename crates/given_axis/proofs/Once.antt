-- No second answer fits the contract of a function that other crates call. Assumes nothing.
use Rattle.laws.proofs.Only.{Only, same}
use Rattle.given_axis.proofs.record_in.Kinds as record-in-kinds
use Rattle.given_axis.proofs.record_in.Reads as record-in-reads

pub record_in_only : Only record-in-kinds.ps record-in-kinds.r record-in-reads.Post
record_in_only κs a y z e f p q = same p q
