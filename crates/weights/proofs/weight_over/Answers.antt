-- `weight_over` meets its contract: the closure tests one weight.
use Rattle.std.proofs.Common.{rules, tests, ltb}
use Rattle.rules.specs.Refusals.{top_weight}
use Rattle.laws.proofs.Any.{any_of_slice}
use Rattle.weights.proofs.weight_over.Goals as goal

pub returns : goal.returns
returns c = any_of_slice (ltb top_weight) _ c.any.ensures.ran (cc) (λ x b q k. search (rules, tests))
