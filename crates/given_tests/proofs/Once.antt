-- No second answer fits the contract of a function that other crates call. Assumes nothing.
use Rattle.laws.proofs.Only.{Only, same}
use Rattle.given_tests.proofs.test_axes.Kinds as test-axes-kinds
use Rattle.given_tests.proofs.test_axes.Reads as test-axes-reads

pub test_axes_only : Only test-axes-kinds.ps test-axes-kinds.r test-axes-reads.Post
test_axes_only κs a y z e f p q = same p.0 q.0
