-- `decode` meets its contract: each way out has the tests that lead there. Assumes nothing.
use Rattle.std.proofs.Common.{◌*◌, ◌≤◌, sym, ap, ◌∙◌, Ok, arith, mul-le-mul_left}
use Rattle.curve_laws.proofs.Refusals.{order_refused, index_refused, index_accepted}
use Rattle.curve_laws.proofs.Shifts.{reaches, falls_short}
use Rattle.decoding.proofs.decode.Goals as goal

pub returns-then-most-order : goal.returns-then-most-order
returns-then-most-order g c = sym (order_refused _ _ _ _ _ c.if-most-order.true)

pub returns-then-unwrap_or-gt0 : goal.returns-then-unwrap_or-gt0
returns-then-unwrap_or-gt0 g c =
    sym (index_refused _ _ _ _ _ c.if-most-order.false (reaches _ _ _ c.checked_shr.ensures (rw c.unwrap_or.ensures at c.if-unwrap_or-gt0.true)))

pub returns : goal.returns
returns g c =
    let few : g.row.D * c.args.order ≤ 64 = omega (arith, mul-le-mul_left g.row.D c.if-most-order.false, c.requires.levels.1) in
    let short = falls_short _ _ _ c.checked_shr.ensures few c.ranges.index.fits (rw c.unwrap_or.ensures at c.if-unwrap_or-gt0.false) in
    ap Ok c.back.ensures ∙ sym (index_accepted _ _ _ _ _ c.if-most-order.false short)
