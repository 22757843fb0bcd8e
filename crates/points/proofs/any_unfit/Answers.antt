-- `points::any_unfit` meets its contract: the closure tests one value as the rule does. Assumes nothing.
use Rattle.std.proofs.Common.{rules}
use Rattle.rules.specs.Refusals.{value_unfit}
use Rattle.laws.proofs.Any.{any_of_slice}
use Rattle.points.proofs.any_unfit.Goals as goal

pub returns : goal.returns
returns c = any_of_slice value_unfit _ c.any.ensures.ran (cc) (λ x b q k. search rules)
