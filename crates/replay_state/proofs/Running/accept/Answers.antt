-- The part of the cell was raised, and no other.
use Rattle.std.proofs.Common.{◌^◌, ◌<◌, get_or, arith}
use Rattle.tally_laws.proofs.Kept.{named}
use Rattle.watch.proofs.Followed.{was}
use Rattle.replay_laws.proofs.Sums.{few_parts, parts-named, part_now}
use Rattle.replay_state.proofs.Running.accept.Goals as goal

pub take-requires-clause-named : goal.take-requires-clause-named
take-requires-clause-named c = rw c.sides.ensures (parts-named c.requires.weighed.0 c.requires.named)

pub follow-requires-clause-was : goal.follow-requires-clause-was
follow-requires-clause-was c =
    let a = c.args in
    let r = c.requires in
    let g = r.weighed.1 in
    let below : get_or a.ids.now a.cell 0 < 2 ^ a.halving.depth = named r.named g r.takes.inside in
    was r.runs.watched _ a.amount below
    (λ i l. part_now g r.runs.sums a.cell a.amount (rw g.long at r.takes.inside) (rw c.sides.ensures at c.take.ensures.sums) i (omega (arith, l, few_parts r.weighed.0)))
