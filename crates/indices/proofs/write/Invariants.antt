-- The slice is the indices of the points before i, and then what it was. Assumes nothing.
use Rattle.std.proofs.Common.{◌≡◌}
use Rattle.points.specs.Cells.{cells}
use Rattle.points.proofs.Written.{written}
use Rattle.indices.proofs.write.Given as goal

abbrev pub invariant-loop-i : goal.invariant-loop-i
invariant-loop-i g l = l.indices ≡ written (λ i. g.C.Curve.index_at l.order (cells l.axes i)) l.i l.initial.indices
