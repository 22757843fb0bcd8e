-- `tested` meets its contract: each way out has the tests that lead there. Assumes nothing.
use Rattle.std.proofs.Common.{sym, ◌∙◌, arith}
use Rattle.curve_laws.proofs.Refusals.{cell_order_refused, cell_refused, cell_accepted}
use Rattle.curve_laws.proofs.Shifts.{one_shifted}
use Rattle.cell_tests.proofs.tested.Goals as goal

pub returns-then-most-order : goal.returns-then-most-order
returns-then-most-order g c = sym (cell_order_refused _ _ _ _ c.if-most-order.true)

pub returns-then-reaches : goal.returns-then-reaches
returns-then-reaches g c = let o = c.if-most-order.false in
    let side = one_shifted c.args.order (omega (arith, o, c.requires)) in
    sym (cell_refused _ _ _ _ o (rw side at (sym c.reaches.ensures ∙ c.if-reaches.true)))

pub returns : goal.returns
returns g c = let o = c.if-most-order.false in
    let side = one_shifted c.args.order (omega (arith, o, c.requires)) in
    sym (cell_accepted _ _ _ _ o (rw side at (sym c.reaches.ensures ∙ c.if-reaches.false)))
