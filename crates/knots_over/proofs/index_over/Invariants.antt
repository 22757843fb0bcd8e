-- The axes over the points so far are made, none of them is thin, and each takes its points. Assumes nothing.
use Rattle.std.proofs.Common.{length}
use Rattle.knots_over.proofs.Call.{Made}
use Rattle.knots_over.proofs.index_over.Given as goal

abbrev pub invariant-loop-points : goal.invariant-loop-points
invariant-loop-points g l = Made (length l.indices) l.order l.axes l.points-index l.placed.items
