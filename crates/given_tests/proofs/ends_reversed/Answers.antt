-- `given_tests::ends_reversed` meets its contract: the closure asks of one axis. Assumes nothing.
use Rattle.std.proofs.Common.{rules}
use Rattle.rules.specs.Refusals.{reversed}
use Rattle.rules.specs.Axis.{low_of, high_of}
use Rattle.laws.proofs.Any.{any_of_mapped}
use Rattle.given_tests.specs.Placed.{given}
use Rattle.given_tests.proofs.ends_reversed.Goals as goal

pub returns : goal.returns
returns c = any_of_mapped (λ g. reversed (low_of g.axis) (high_of g.axis)) given _ c.any.ensures.ran (cc) (λ x b q k. search rules)
