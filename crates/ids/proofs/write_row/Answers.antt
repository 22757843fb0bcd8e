-- `write_row` meets its contract: the cells passed have their ids, and the others what they held.
use Rattle.std.proofs.Common.{refl, arith}
use Rattle.rules.specs.Sums.{list}
use Rattle.ids.specs.Ids.{id_on}
use Rattle.laws.proofs.Lists.{list_more}
use Rattle.ids.proofs.write_row.Goals as goal

pub loop-x-init : goal.loop-x-init
unfolding list
loop-x-init g c = refl

pub loop-x-preserved : goal.loop-x-preserved
unfolding id_on
loop-x-preserved g c =
    let a = c.args in
    rw (c.loop-x.invariant, c.part_of.ensures)
    (list_more (λ x. id_on a.splits.now g.row.AXES a.depth a.first x a.y a.z) a.row.now c.loop-x.x (omega arith))
