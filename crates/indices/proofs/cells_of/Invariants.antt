-- The cells on the axes before e are there. Assumes nothing.
use Rattle.std.proofs.Common.{ℕ, ◌≡◌, ◌<◌, get_or, length}
use Rattle.points.specs.Cells.{cells}
use Rattle.indices.proofs.cells_of.Given as goal

abbrev pub invariant-loop-e : goal.invariant-loop-e
invariant-loop-e g l = record {
  long : length l.cell ≡ length l.axes;
  so_far : (k : ℕ) → k < l.e → get_or l.cell k 0 ≡ get_or (cells l.axes l.i) k 0;
}
