-- `given_tests::some_foreign` meets its contract: the closure asks of one axis. Assumes nothing.
use Rattle.std.proofs.Common.{rules}
use Rattle.knots_given.specs.Given.{foreign}
use Rattle.laws.proofs.Any.{any_of_mapped}
use Rattle.given_tests.specs.Placed.{given}
use Rattle.given_tests.proofs.some_foreign.Goals as goal

pub returns-clause-value : goal.returns-clause-value
returns-clause-value c = any_of_mapped (λ g. foreign c.args.order g.axis) given _ c.any.ensures.ran (cc) (λ x b q k. search rules)
