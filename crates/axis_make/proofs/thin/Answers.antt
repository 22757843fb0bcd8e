-- `axis_make::thin` meets its contract: the code's two numbers are those of the rule. Assumes nothing.
use Rattle.std.proofs.Common.{rules}
use lib.Ieee.{of_bits}
use Rattle.rules.specs.Refusals.{axis_thin}
use Rattle.axis_make.proofs.thin.Goals as goal

pub returns-then-width : goal.returns-then-width
unfolding of_bits axis_thin
returns-then-width c = search rules

pub returns-else-width : goal.returns-else-width
unfolding of_bits axis_thin
returns-else-width c = search rules
