-- `given_tests::asked` meets its contract: where no question passes, each axis takes its points. Assumes nothing.
use Rattle.std.proofs.Common.{sym, ◌∙◌}
use Rattle.given_tests.proofs.OneAxis.{all_take, given_unfit}
use Rattle.given_tests.proofs.asked.Goals as goal

pub returns-clause-takes : goal.returns-clause-takes
returns-clause-takes c e = all_take _ _ (c.some_foreign.ensures.order_value c.if-some_foreign.false) (sym (given_unfit _) ∙ sym c.some_unfit.ensures ∙ c.if-some_unfit.false) (sym c.points_outside.ensures ∙ c.if-points_outside.false)
