-- `weighted_median` meets its contract: one line after the other is passed, and the cut is where the search ends or one line before.
use Rattle.std.proofs.Common.{◌≡◌, ◌-◌, length, refl, arith, length-take}
use Rattle.rules.specs.Sums.{total}
use Rattle.rules.specs.Halving.{reach}
use Rattle.median.specs.Median.{LinesLight, line_at}
use Rattle.median.proofs.Search.{not_last, start, step, over, stop, short, within, over_hi}
use Rattle.median.proofs.weighted_median.Goals as goal
use Rattle.median.proofs.weighted_median.Goals.{else-loop-line-test, then-loop-line-test+then-lo-cut, else-lo-cut-2-via-then-lo-cut-2+else-hi-cut, else-lo-cut-2-via-else-lo-cut-2}

pub loop-line-init : goal.loop-line-init
loop-line-init c = (refl, start _ _ c.requires.some.0)

pub overflow_add-cut-in-loop-line : goal.overflow_add-cut-in-loop-line
unfolding LinesLight
overflow_add-cut-in-loop-line c =
    let i = c.loop-line.line-index in
    let v = c.loop-line.invariant in
    let next = not_last c.args.lines.now i c.loop-line-test.true in
    omega (arith, v.0, v.1.bound, v.1.inside, next.0, c.requires.lines_light i (omega (arith, next.1)), c.requires.some)

pub loop-line-preserved : goal.loop-line-preserved
unfolding LinesLight
loop-line-preserved c =
    let i = c.loop-line.line-index in
    let v = c.loop-line.invariant in
    let next = not_last c.args.lines.now i c.loop-line-test.true in
    (omega (arith, v.0), step v.1 _ (rw v.0 next.0) (rw next.0 (c.requires.lines_light i (omega (arith, next.1)))) c.if-lo-cut.false (omega (arith, v.0, next.1)))

pub returns-then-hi-cut : goal.returns-then-hi-cut
returns-then-hi-cut c =
    let v = c.loop-line.invariant in
    over_hi v.1 c.args.hi (stop v.1 c.if-lo-cut-2.true) c.if-lo-cut-2.true c.if-hi-cut.true

pub returns-else-lo-cut-2 : goal.returns-else-lo-cut-2
returns-else-lo-cut-2 c =
    let v = c.loop-line.invariant in
    let found : reach (total (line_at c.args.lines.now)) c.args.lo 0 (length c.args.lines.now - 1) ≡ c.loop-line.cut.position =
    elim c.loop-line-test.branch [
      | else-loop-line-test w ↦ over v.1 (omega (arith, v.0, w.loop-line-test.false, length-take (length c.args.lines.now - 1) c.args.lines.now))
      | then-loop-line-test+then-lo-cut w ↦ stop v.1 w.if-lo-cut.true
    ] in
    elim c.else-lo-cut-2.branch [
      | else-lo-cut-2-via-then-lo-cut-2+else-hi-cut w ↦ within v.1 c.args.hi found w.if-hi-cut.false
      | else-lo-cut-2-via-else-lo-cut-2 w ↦ short v.1 c.args.hi found w.if-lo-cut-2.false
    ]
