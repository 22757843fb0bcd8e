-- The amount goes to the cell's weight and to all its sums.
use Rattle.std.proofs.Common.{refl}
use Rattle.tally_laws.proofs.Kept.{named, can_add, still_tallied}
use Rattle.tallies.proofs.Counting.{added}
use Rattle.tallies.proofs.Tally.take.Goals as goal

pub put-raised-requires : goal.put-raised-requires
put-raised-requires c =
    let g = c.requires.weighed in
    let t = c.requires.takes in
    can_add g c.requires.tallied c.args.cell c.args.amount (rw g.long at t.inside) refl (named c.requires.named g t.inside) t.light

pub returns-clause-sums : goal.returns-clause-sums
returns-clause-sums c =
    let g = c.requires.weighed in
    let t = c.requires.takes in
    still_tallied g c.requires.tallied c.args.cell c.args.amount (rw g.long at t.inside) refl (named c.requires.named g t.inside)
    (rw (c.max-self.ensures, c.put-raised.ensures.heaviest) (added c.args.self.now.heaviest c.put-raised.ensures))
