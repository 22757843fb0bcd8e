-- `points::some_unfit` meets its contract: the closure tests the values on one axis. Assumes nothing.
use Rattle.std.proofs.Common.{rules}
use Rattle.rules.specs.Sums.{any}
use Rattle.rules.specs.Refusals.{value_unfit}
use Rattle.rules.specs.Knots.{some_unfit}
use Rattle.laws.proofs.Any.{any_of_mapped}
use Rattle.points.proofs.some_unfit.Goals as goal

pub returns : goal.returns
unfolding some_unfit
returns g c = any_of_mapped (any value_unfit) g.P.Points.points_of _ c.any.ensures.ran (cc) (λ x b q k. search rules)
