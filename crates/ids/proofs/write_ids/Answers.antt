-- `write_ids` meets its contract: two axes, or three, and the ids of all rows are those of the rules.
use Rattle.std.proofs.Common.{◌≡◌, ◌∙◌, arith}
use Rattle.ids.proofs.Ids.{all_ids}
use Rattle.ids.proofs.write_ids.Goals as goal

pub returns-then-halving-eq2 : goal.returns-then-halving-eq2
returns-then-halving-eq2 c =
    let h = c.args.halving.now in
    let two : h.grid.axes ≡ 2 = c.if-halving-eq2.true in
    c.write_rows.ensures ∙ all_ids h.grid 2 c.args.splits.now h.first h.depth two (omega (arith, c.requires.first)) c.requires.sides.0 c.requires.sides.1

pub returns-else-halving-eq2 : goal.returns-else-halving-eq2
returns-else-halving-eq2 c =
    let h = c.args.halving.now in
    let three : h.grid.axes ≡ 3 = omega (arith, c.if-halving-eq2.false, h.grid.axes_fit) in
    c.write_rows-else-halving-eq2.ensures ∙ all_ids h.grid 3 c.args.splits.now h.first h.depth three (omega (arith, c.requires.first)) c.requires.sides.0 c.requires.sides.1
