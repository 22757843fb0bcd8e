-- `given_tests::any_outside` meets its contract: the closure asks of one value. Assumes nothing.
use Rattle.std.proofs.Common.{rules}
use Rattle.rules.specs.Refusals.{outside}
use Rattle.laws.proofs.Any.{any_of_slice}
use Rattle.given_tests.proofs.any_outside.Goals as goal

pub returns : goal.returns
returns c = any_of_slice (outside c.args.low c.args.high) _ c.any.ensures.ran (cc) (λ x b q k. search rules)
