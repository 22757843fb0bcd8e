-- `write_rows` meets its contract: the rows passed hold their ids, and the others what they held.
use Rattle.std.proofs.Common.{◌≡◌, ℕ, ◌+◌, ◌-◌, ◌*◌, ◌/◌, ◌%◌, ◌≤◌, ◌<◌, ◌∙◌, List, length, ap, arith}
use native.Mathlib.Nat.{mul-le-mul_left, mul-zero}
use borrow.Rule.Slice.PartMut.{mid_of, mid_len}
use Rattle.rules.specs.Sums.{list}
use Rattle.ids.specs.Ids.{id_on, id_at}
use Rattle.ids.proofs.Rows.{row_more, row_is}
use Rattle.ids.proofs.write_rows.Goals as goal

next : {j m : ℕ} → j < m → j + 1 ≤ m
next h = omega arith

pub loop-q-init : goal.loop-q-init
unfolding list
loop-q-init g c = rw (mul-zero c.args.width)

pub loop-q-preserved : goal.loop-q-preserved
loop-q-preserved g c =
    let a = c.args in
    let w = a.width in
    let q = c.loop-q.q in
    let fits : w * q + w ≤ length a.ids.now = omega (arith, c.requires.ids_len, mul-le-mul_left w (next c.loop-q-test.true)) in
    let wide : length (mid_of (w * q) (w * q + w - w * q) c.loop-q.ids) ≡ w =
    mid_len (w * q) _ c.loop-q.ids (omega (arith, fits, c.loop-q.auto.ids)) ∙ omega arith in
    let row : ℕ → List ℕ = λ n. list (λ x. id_on a.splits.now g.row.AXES a.depth a.first x (q % a.height) (q / a.height)) n in
    row_more (id_at a.splits.now g.row.AXES a.depth a.first w a.height) w q _ _ _ fits c.loop-q.invariant
    (c.write_row.ensures ∙ ap row wide ∙ row_is a.splits.now g.row.AXES a.depth a.first w a.height q c.requires.width_nonzero.0)
