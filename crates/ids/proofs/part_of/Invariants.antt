-- The way that is left from the node is the rest of the cell's way.
use Rattle.ids.proofs.Way.{Way}
use Rattle.ids.proofs.part_of.Given as goal

abbrev pub invariant-loop-level : goal.invariant-loop-level
invariant-loop-level g l = Way l.splits g.row.AXES l.depth l.first l.cell l.node l.id l.axis l.level
