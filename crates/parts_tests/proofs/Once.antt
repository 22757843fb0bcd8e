-- No second answer fits the contract of a function that another crate calls. Assumes nothing.
use Rattle.laws.proofs.Only.{Only, same}
use Rattle.laws.proofs.Numbers.{same_answer}
use Rattle.parts_tests.proofs.test.Kinds as test-kinds
use Rattle.parts_tests.proofs.test.Reads as test-reads

pub test_only : Only test-kinds.ps test-kinds.r test-reads.Post
test_only κs a y z e f p q = same_answer y z (same p q)
