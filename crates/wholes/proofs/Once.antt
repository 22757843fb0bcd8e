-- No second answer fits the contract of a public function. Assumes nothing.
use Rattle.laws.proofs.Only.{Only, same}
use Rattle.wholes.proofs.is_digit.Kinds as is-digit-kinds
use Rattle.wholes.proofs.is_digit.Reads as is-digit-reads
use Rattle.wholes.proofs.whole_of.Kinds as whole-of-kinds
use Rattle.wholes.proofs.whole_of.Reads as whole-of-reads

pub is_digit_only : Only is-digit-kinds.ps is-digit-kinds.r is-digit-reads.Post
is_digit_only κs a y z e f p q = same p q

pub whole_of_only : Only whole-of-kinds.ps whole-of-kinds.r whole-of-reads.Post
whole_of_only κs a y z e f p q = same p q
