-- No second answer fits the contract of a public function. Assumes nothing.
use Rattle.laws.proofs.Only.{Only, same}
use Rattle.separators.proofs.separator_of.Kinds as separator-of-kinds
use Rattle.separators.proofs.separator_of.Reads as separator-of-reads

pub separator_of_only : Only separator-of-kinds.ps separator-of-kinds.r separator-of-reads.Post
separator_of_only κs a y z e f p q = same p q
