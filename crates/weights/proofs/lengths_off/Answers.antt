-- `lengths_off` meets its contract: the closure tests one length.
use Rattle.std.proofs.Common.{rules, tests, not, eqb}
use Rattle.laws.proofs.Any.{any_of_slice}
use Rattle.weights.proofs.lengths_off.Goals as goal

pub returns : goal.returns
returns c = any_of_slice (λ m. not (eqb m c.args.n)) _ c.any.ensures.ran (cc) (λ x b q k. search (rules, tests))
