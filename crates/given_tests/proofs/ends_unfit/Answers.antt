-- `given_tests::ends_unfit` meets its contract: the closure asks of one axis. Assumes nothing.
use Rattle.std.proofs.Common.{rules, [], ◌∷◌}
use Rattle.rules.specs.Sums.{any}
use Rattle.rules.specs.Refusals.{value_unfit}
use Rattle.rules.specs.Axis.{low_of, high_of}
use Rattle.laws.proofs.Any.{any_of_mapped}
use Rattle.given_tests.specs.Placed.{given}
use Rattle.given_tests.proofs.ends_unfit.Goals as goal

pub returns : goal.returns
unfolding any
returns c = any_of_mapped (λ g. any value_unfit (low_of g.axis ∷ high_of g.axis ∷ [])) given _ c.any.ensures.ran (cc) (λ x b q k. search rules)
