-- `knots_over::index_over` meets its contract: points that pass the tests refuse an axis only for being thin, and an axis that is made takes its
-- points. Assumes nothing.
use Rattle.std.proofs.Common.{rules, arith, ◌≡◌, ◌<◌, Err, length}
use Rattle.knots_over.proofs.Call.{files_early, files_thin, one_more, order_few, files_all}
use Rattle.knots_over.proofs.index_over.Goals as goal

pub returns-in_err-test_points : goal.returns-in_err-test_points
returns-in_err-test_points g c =
    let e : c.from_residual.result ≡ Err c.in_err-test_points.field-0.0 = search rules in
    rw e (files_early _ _ c.TOP_ORDER.ensures _ _ _ _ _ c.test_points.ensures _ c.in_err-test_points.was)

pub returns-in_err-axis : goal.returns-in_err-axis
returns-in_err-axis g c =
    let e : c.from_residual-in_err-axis.result ≡ Err c.in_err-axis.field-0.0 = search rules in
    let here : c.loop-points.points-index < length c.args.axes.now = omega arith in
    rw e (files_thin _ _ c.TOP_ORDER.ensures _ _ _ _ _ c.test_points.ensures c.in_ok-test_points.was g.met.C.Curve.top_few (omega arith) _ _ here _ c.axis_over.ensures _ c.in_err-axis.was)

pub loop-points-preserved : goal.loop-points-preserved
loop-points-preserved g c =
    let here : c.loop-points.points-index < length c.args.axes.now = omega arith in
    one_more _ _ c.TOP_ORDER.ensures g.C.Curve.index_at _ _ _ _ c.test_points.ensures c.in_ok-test_points.was g.met.C.Curve.top_few (omega arith) _ _ here _ c.axis_over.ensures _ c.in_ok-axis.was _ _ c.push.ensures.items c.loop-points.invariant

pub write-requires-clause-few : goal.write-requires-clause-few
write-requires-clause-few g c = order_few _ _ c.TOP_ORDER.ensures g.C.Curve.index_at _ _ _ _ c.test_points.ensures c.in_ok-test_points.was g.met.C.Curve.top_few (omega (arith, g.met.C.Curve.some_axes, c.requires.all))

pub returns : goal.returns
returns g c =
    files_all _ _ c.TOP_ORDER.ensures _ _ _ _ _ c.test_points.ensures c.in_ok-test_points.was g.met.C.Curve.top_few (omega (arith, g.met.C.Curve.some_axes, c.requires.all)) _ c.loop-points-test.false _ c.loop-points.invariant _ (rw c.deref.ensures.0 at c.write.ensures)
