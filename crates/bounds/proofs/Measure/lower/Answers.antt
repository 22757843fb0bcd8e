-- The parts of the right side have the power in common.
use Rattle.std.proofs.Common.{sym, ◌∙◌, arith}
use borrow.Author.Tests.{le-leb}
use Rattle.bounds.proofs.Sides.{lower_is, lower_doubled}
use Rattle.bounds.proofs.Measure.lower.Goals as goal

pub returns-then-all-part : goal.returns-then-all-part
returns-then-all-part c =
    let a = c.args in
    sym (le-leb _ _ (lower_doubled a.self.small.depth (omega (arith, c.requires, a.self.small.line)) c.if-all-part.true)) ∙ lower_is a.self.depth a.w a.self.all a.self.line

pub returns : goal.returns
returns c = let a = c.args in c.at_most.ensures ∙ lower_is a.self.depth a.w a.self.all a.self.line
