-- No second answer fits the contract of a function that another crate calls. Assumes nothing.
use Rattle.laws.proofs.Numbers.{same_answer}
use Rattle.laws.proofs.Only.{Only, same}
use Rattle.halving_tests.proofs.tests.Kinds as tests_Kinds
use Rattle.halving_tests.proofs.tests.Reads as tests-reads

pub tests_only : Only tests_Kinds.ps tests_Kinds.r tests-reads.Post
tests_only κs a y z e f p q = same_answer y z (same p q)
