-- No second answer fits the contract of a function that another crate calls. Assumes nothing.
use Rattle.laws.proofs.Only.{Only, same}
use Rattle.bounds.proofs.Measure.keeps.Kinds as keeps-kinds
use Rattle.bounds.proofs.Measure.keeps.Reads as keeps-reads

pub keeps_only : Only keeps-kinds.ps keeps-kinds.r keeps-reads.Post
keeps_only κs a y z e f p q = same p q
