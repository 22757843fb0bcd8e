-- A cell's weight is added to sums in which it is 0 yet.
use Rattle.std.proofs.Common.{◌≡◌, ◌<◌, length, refl, arith}
use native.Mathlib.Nat.{zero-add}
use Rattle.tally_laws.proofs.Kept.{named, can_add, heavier_weighed}
use Rattle.tally_laws.proofs.Start.{first-none, first_all, first_zero, first_next, zeros_weighed}
use Rattle.tallies.proofs.Counting.{nothing_tallied, one_more, found}
use Rattle.tallies.proofs.Tally.add_all.Goals as goal

pub loop-cell-init : goal.loop-cell-init
loop-cell-init c =
    let g = c.requires.weighed in
    (rw (first-none, g.long) (zeros_weighed c.args.sides.now g.sided), rw (first-none, g.long, c.requires.none) (nothing_tallied c.args.sides.now c.args.ids.now g.sided))

pub put-requires : goal.put-requires
put-requires c =
    let g = c.requires.weighed in
    let i = c.loop-cell.invariant in
    let h : c.loop-cell.cell < length c.args.weights.now = omega arith in
    can_add i.0 i.1 c.loop-cell.cell _ (rw g.long at h) refl (named c.requires.named g h) (rw (first_zero c.args.weights.now c.loop-cell.cell h, zero-add) (g.light c.loop-cell.cell h))

pub loop-cell-preserved : goal.loop-cell-preserved
loop-cell-preserved c =
    let g = c.requires.weighed in
    let i = c.loop-cell.invariant in
    let h : c.loop-cell.cell < length c.args.weights.now = omega arith in
    let w = first_next c.args.weights.now c.loop-cell.cell h in (
      rw (← w) (heavier_weighed i.0 c.loop-cell.cell _ (rw (i.0.long, ← g.long) h) (rw (first_zero c.args.weights.now c.loop-cell.cell h, zero-add) (g.light c.loop-cell.cell h))),
      rw (← w) (one_more i.0 i.1 c.loop-cell.cell _ (rw g.long at h) refl (named c.requires.named g h) c.put.ensures),
    )

pub returns : goal.returns
returns c =
    let e : c.loop-cell.cell ≡ length c.args.weights.now = omega arith in
    found c.loop-cell.self (rw (e, first_all) at c.loop-cell.invariant.1) c.heaviest_line-self.ensures
