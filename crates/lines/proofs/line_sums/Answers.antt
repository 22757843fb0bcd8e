-- `line_sums` meets its contract: each line passed has its weight, and the rest is as it was.
use Rattle.std.proofs.Common.{refl, arith}
use Rattle.rules.specs.Sums.{list}
use Rattle.laws.proofs.Lists.{list_more}
use Rattle.lines.specs.Stacks.{line_of}
use Rattle.lines.proofs.line_sums.Goals as goal

pub loop-i-init : goal.loop-i-init
unfolding list
loop-i-init c = refl

pub loop-i-preserved : goal.loop-i-preserved
loop-i-preserved c =
    let a = c.args in
    rw (c.loop-i.invariant, c.solid.ensures) (list_more (line_of a.weights.now a.start a.jump a.s) a.sums.now c.loop-i.i (omega arith))
