-- An axis more.
use Rattle.std.proofs.Common.{◌*◌, ◌∙◌, refl, arith}
use Rattle.rules.specs.Sums.{top}
use Rattle.rules.specs.Grid.{on}
use Rattle.tallies.proofs.Heaviest.{largest_of, max_next}
use Rattle.tallies.proofs.Tally.heaviest_line.Goals as goal

pub loop-axis-init : goal.loop-axis-init
unfolding top
loop-axis-init c = refl

pub loop-axis-preserved : goal.loop-axis-preserved
loop-axis-preserved c = max_next _ _ c.loop-axis.invariant (c.largest.ensures ∙ largest_of c.args.self.now.lines (c.loop-axis.axis * 1024) (on c.args.sides.now c.loop-axis.axis) (omega (arith, c.requires.sided.axes, c.requires.sided.sides_fit c.loop-axis.axis (omega arith), c.requires.lines_len)) (omega arith)) c.max-heaviest.ensures
