-- `given_tests::points_outside` meets its contract: the closure asks of one axis. Assumes nothing.
use Rattle.std.proofs.Common.{rules}
use Rattle.rules.specs.Sums.{any}
use Rattle.rules.specs.Refusals.{outside}
use Rattle.rules.specs.Axis.{low_of, high_of}
use Rattle.laws.proofs.Any.{any_of_mapped}
use Rattle.given_tests.specs.Placed.{given}
use Rattle.given_tests.proofs.points_outside.Goals as goal

pub returns : goal.returns
returns c = any_of_mapped (λ g. any (outside (low_of g.axis) (high_of g.axis)) g.points) given _ c.any.ensures.ran (cc) (λ x b q k. search rules)
