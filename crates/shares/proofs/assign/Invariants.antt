-- What is known at each place of the order is `Passed`.
use Rattle.parts_laws.proofs.Passing.{Passed}
use Rattle.shares.proofs.assign.Given as goal

abbrev pub invariant-loop-place : goal.invariant-loop-place
invariant-loop-place l = Passed l.n l.indices l.weights l.parts l.sum l.k l.last l.place-index
