-- At a turn the sum across the axis is at its place, and is not raised yet.
use Rattle.std.proofs.Common.{arith, rules}
use Rattle.tallies.proofs.Raising.{begun, sum_fits, one_more}
use Rattle.tallies.proofs.Tally.raise_lines.Goals as goal

pub loop-axis-init : goal.loop-axis-init
loop-axis-init c = begun _ _ _ _

pub overflow_add-self : goal.overflow_add-self
overflow_add-self c = let f = sum_fits c.requires.sided c.requires.cell_bound c.loop-axis.invariant (omega arith) c.requires.raisable.0 in search rules

pub loop-axis-preserved : goal.loop-axis-preserved
loop-axis-preserved c =
    one_more c.requires.sided c.requires.cell_bound c.loop-axis.invariant (omega arith) c.requires.raisable.1 c.max-heaviest.ensures

pub overflow_cast-rest : goal.overflow_cast-rest
overflow_cast-rest c = omega (arith, c.requires.sided.few, c.requires.cell_bound)

pub overflow_cast-side : goal.overflow_cast-side
overflow_cast-side c = omega (arith, c.requires.sided.sides_fit c.loop-axis.axis (omega arith))
