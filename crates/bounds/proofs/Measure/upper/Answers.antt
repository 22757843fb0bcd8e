-- Where the part is heavier than the line alone allows, the rest of it counts.
use Rattle.std.proofs.Common.{sym, ◌∙◌, arith}
use borrow.Author.Tests.{le-leb}
use Rattle.bounds.proofs.Sides.{upper_holds, upper_is, upper_doubled}
use Rattle.bounds.proofs.Measure.upper.Goals as goal

pub returns-then-part-line : goal.returns-then-part-line
returns-then-part-line c = let a = c.args in sym (le-leb _ _ (upper_holds a.self.depth a.w a.self.all a.self.line c.if-part-line.true))

pub returns-then-over-self : goal.returns-then-over-self
returns-then-over-self c =
    let a = c.args in
    sym (le-leb _ _ (upper_doubled a.self.small.depth (omega (arith, c.requires)) c.if-over-self.true)) ∙ upper_is a.self.depth a.w a.self.all a.self.line c.if-part-line.false

pub returns : goal.returns
returns c = let a = c.args in c.at_most.ensures ∙ upper_is a.self.depth a.w a.self.all a.self.line c.if-part-line.false
