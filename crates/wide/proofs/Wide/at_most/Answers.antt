-- The limbs are compared from the top.
use Rattle.std.proofs.Common.{◌∙◌}
use Rattle.wide.proofs.Order.{as_told}
use Rattle.wide.proofs.Wide.at_most.Goals as goal

pub returns : goal.returns
returns c = c.le.ensures ∙ rw (← c.self.view_is, ← c.other.view_is) (as_told c.self.invariant c.other.invariant)
