-- No second answer fits the contract of a public function. Assumes nothing.
use Rattle.laws.proofs.Only.{Only, same}
use Rattle.ratio.proofs.over_tens.Kinds as over-tens-kinds
use Rattle.ratio.proofs.over_tens.Reads as over-tens-reads
use Rattle.ratio.proofs.times_tens.Kinds as times-tens-kinds
use Rattle.ratio.proofs.times_tens.Reads as times-tens-reads

pub over_tens_only : Only over-tens-kinds.ps over-tens-kinds.r over-tens-reads.Post
over_tens_only κs a y z e f p q = same p q

pub times_tens_only : Only times-tens-kinds.ps times-tens-kinds.r times-tens-reads.Post
times_tens_only κs a y z e f p q = same p q
