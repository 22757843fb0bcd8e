-- No second answer fits the contract of a public function. Assumes nothing.
use Rattle.laws.proofs.Only.{Only, same}
use Rattle.decimal_steps.proofs.step.Kinds as step-kinds
use Rattle.decimal_steps.proofs.step.Reads as step-reads

pub step_only : Only step-kinds.ps step-kinds.r step-reads.Post
step_only κs a y z e f p q = same p q
