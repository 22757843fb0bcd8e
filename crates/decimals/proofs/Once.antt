-- No second answer fits the contract of a public function. Assumes nothing.
use Rattle.laws.proofs.Only.{Only, same}
use Rattle.decimals.proofs.decimal_of.Kinds as decimal-of-kinds
use Rattle.decimals.proofs.decimal_of.Reads as decimal-of-reads

pub decimal_of_only : Only decimal-of-kinds.ps decimal-of-kinds.r decimal-of-reads.Post
decimal_of_only κs a y z e f p q = same p q
