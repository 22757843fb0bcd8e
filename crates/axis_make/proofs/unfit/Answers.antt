-- `axis_make::unfit` meets its contract: the code's two numbers are those of the rule. Assumes nothing.
use Rattle.std.proofs.Common.{rules}
use lib.Ieee.{of_bits, neg}
use Rattle.rules.specs.Refusals.{value_unfit}
use Rattle.axis_make.proofs.unfit.Goals as goal

pub returns : goal.returns
unfolding of_bits neg value_unfit
returns c = search rules
