-- `knots_tests::lengths_differ` meets its contract: the closure tests one slice. Assumes nothing.
use Rattle.std.proofs.Common.{rules}
use Rattle.laws.proofs.Any.{any_of_slice}
use Rattle.knots_tests.specs.Tests.{differs}
use Rattle.knots_tests.proofs.lengths_differ.Goals as goal

pub returns : goal.returns
returns g c = any_of_slice (λ axis. differs c.args.n (g.P.Points.points_of axis)) _ c.any.ensures.ran (cc) (λ x b q k. search rules)
