-- `tests` meets its contract: a grid in 2D is refused as its one layer is.
use Rattle.std.proofs.Common.{◌∙◌}
use Rattle.halving_tests.proofs.ThreeSides.{three_sides}
use Rattle.halving_tests.proofs.tests.Goals as goal

pub returns : goal.returns
returns c = c.refusal.ensures ∙ three_sides c.args.halving.grid _ _ _ _ _ _
