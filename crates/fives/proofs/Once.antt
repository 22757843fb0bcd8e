-- No second answer fits the contract of a public function. Assumes nothing.
use Rattle.laws.proofs.Only.{Only, same}
use Rattle.fives.proofs.signed.Kinds as signed-kinds
use Rattle.fives.proofs.signed.Reads as signed-Reads
use Rattle.fives.proofs.over_by_fives.Kinds as over-by-fives-kinds
use Rattle.fives.proofs.over_by_fives.Reads as over-by-fives-reads
use Rattle.fives.proofs.times_by_fives.Kinds as times-by-fives-kinds
use Rattle.fives.proofs.times_by_fives.Reads as times-by-fives-reads

pub signed_only : Only signed-kinds.ps signed-kinds.r signed-Reads.Post
signed_only κs a y z e f p q = same p q

pub over_by_fives_only : Only over-by-fives-kinds.ps over-by-fives-kinds.r over-by-fives-reads.Post
over_by_fives_only κs a y z e f p q = same p q

pub times_by_fives_only : Only times-by-fives-kinds.ps times-by-fives-kinds.r times-by-fives-reads.Post
times_by_fives_only κs a y z e f p q = same p q
