-- The lines across the axes passed are raised.
use Rattle.tallies.proofs.Raising.{RaisedTo}
use Rattle.tallies.proofs.Tally.raise_lines.Given as goal

abbrev pub invariant-loop-axis : goal.invariant-loop-axis
invariant-loop-axis l = RaisedTo l.sides l.cell l.amount l.initial.self l.axis l.rest l.heaviest l.self
