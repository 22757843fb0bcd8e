-- `indices::write` meets its contract: each axis accepts the point, and its cells lie below 2^order. Assumes nothing.
use Rattle.std.proofs.Common.{◌<◌, length, arith, refl}
use Rattle.rules.specs.Sums.{list}
use Rattle.points.proofs.Cells.{cells_below}
use Rattle.points.proofs.Written.{written_more}
use Rattle.indices.proofs.write.Goals as goal

pub loop-i-init : goal.loop-i-init
unfolding list
loop-i-init g c = refl

pub index-requires : goal.index-requires
index-requires g c =
    let here : c.loop-i.i < length c.args.indices.now = omega arith in
    (omega (arith, g.met.C.Curve.some_axes), (c.requires.few, rw c.cells_of.ensures (cells_below _ _ _ _ here c.requires.taken)))

pub loop-i-preserved : goal.loop-i-preserved
loop-i-preserved g c = written_more _ _ _ _ _ (omega arith) c.loop-i.invariant (rw c.cells_of.ensures at c.index.ensures)
