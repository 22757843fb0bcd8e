-- `knots_on::index_on` meets its contract: the tests of the shape stand before what is asked of the axes, and axes of which nothing passes take their
-- points. Assumes nothing.
use Rattle.std.proofs.Common.{rules, arith, ◌≡◌, Err}
use Rattle.knots_on.proofs.Call.{shape_files, order_few, all_taken, axes_file, files_all}
use Rattle.knots_on.proofs.index_on.Goals as goal

pub returns-in_err-test_shape : goal.returns-in_err-test_shape
returns-in_err-test_shape g c =
    let e : c.from_residual.result ≡ Err c.in_err-test_shape.field-0.0 = search rules in
    rw e (shape_files _ _ c.TOP_ORDER.ensures _ _ (omega (arith, g.met.C.Curve.some_axes, c.requires.all)) _ _ _ c.test_shape.ensures _ c.in_err-test_shape.was)

pub returns-in_err-test_axes : goal.returns-in_err-test_axes
returns-in_err-test_axes g c =
    let e : c.from_residual-in_err-test_axes.result ≡ Err c.in_err-test_axes.field-0.0 = search rules in
    rw e (axes_file _ _ c.TOP_ORDER.ensures _ _ (omega (arith, g.met.C.Curve.some_axes, c.requires.all)) _ _ _ c.test_shape.ensures c.in_ok-test_shape.was _ c.test_axes.ensures.value _ c.in_err-test_axes.was)

pub write-requires-clause-few : goal.write-requires-clause-few
write-requires-clause-few g c = order_few _ _ c.TOP_ORDER.ensures g.C.Curve.index_at _ (omega (arith, g.met.C.Curve.some_axes, c.requires.all)) _ _ _ c.test_shape.ensures c.in_ok-test_shape.was

pub write-requires-clause-taken : goal.write-requires-clause-taken
write-requires-clause-taken g c =
    all_taken _ _ c.TOP_ORDER.ensures g.C.Curve.index_at _ (omega (arith, g.met.C.Curve.some_axes, c.requires.all)) _ _ _ c.test_shape.ensures c.in_ok-test_shape.was (c.test_axes.ensures.takes c.in_ok-test_axes.was)

pub returns : goal.returns
returns g c = files_all _ _ c.TOP_ORDER.ensures _ _ (omega (arith, g.met.C.Curve.some_axes, c.requires.all)) _ _ _ c.test_shape.ensures c.in_ok-test_shape.was _ c.test_axes.ensures.value c.in_ok-test_axes.was _ c.write.ensures
