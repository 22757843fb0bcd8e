-- No second answer fits the contract of a public function. Assumes nothing.
use Rattle.laws.proofs.Only.{Only, same}
use Rattle.exponents.proofs.exponent_step.Kinds as exponent-step-kinds
use Rattle.exponents.proofs.exponent_step.Reads as exponent-step-reads

pub exponent_step_only : Only exponent-step-kinds.ps exponent-step-kinds.r exponent-step-reads.Post
exponent_step_only κs a y z e f p q = same p q
