-- `given_tests::test_axes` meets its contract: the number of what is asked is that of the earliest place. Assumes nothing.
use Rattle.std.proofs.Common.{map}
use Rattle.given_tests.specs.Placed.{given}
use Rattle.given_tests.proofs.Places.{answered_at_the_earliest}
use Rattle.given_tests.proofs.test_axes.Goals as goal

pub returns-clause-earliest : goal.returns-clause-earliest
returns-clause-earliest c = answered_at_the_earliest c.args.order (map given c.args.axes.now) c.asked.result c.asked.ensures.answer
