-- `reaches` meets its contract: the closure tests one coordinate. Assumes nothing.
use Rattle.std.proofs.Common.{rules, leb}
use Rattle.laws.proofs.Any.{any_of_slice}
use Rattle.cell_tests.proofs.reaches.Goals as goal

pub returns : goal.returns
returns c = any_of_slice (leb c.args.side) _ c.any.ensures.ran (cc) (λ x b q k. search rules)
