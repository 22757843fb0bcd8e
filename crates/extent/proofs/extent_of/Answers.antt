-- `extent::extent_of` meets its contract: the points behind the first widen it one after the other. Assumes nothing.
use Rattle.std.proofs.Common.{◌∙◌, arith}
use lib.Ieee.{of_bits}
use Rattle.extent.proofs.Folded.{none, folded}
use Rattle.extent.proofs.extent_of.Goals as goal

pub returns-in_default : goal.returns-in_default
unfolding of_bits
returns-in_default c = none _ c.in_default.ensures.cases

pub returns : goal.returns
returns c = c.loop-x.invariant ∙ folded _ _ _ _ c.in-Some.ensures.cases.0 (omega arith)
