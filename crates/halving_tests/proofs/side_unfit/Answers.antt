-- `side_unfit` meets its contract: the closure tests one side.
use Rattle.std.proofs.Common.{rules, tests}
use Rattle.rules.specs.Refusals.{side_unfit}
use Rattle.laws.proofs.Any.{any_of_slice}
use Rattle.halving_tests.proofs.side_unfit.Goals as goal

pub returns : goal.returns
returns c = any_of_slice side_unfit _ c.any.ensures.ran (cc) (λ x b q k. search (rules, tests))
