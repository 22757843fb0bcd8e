-- `knots_tests::test_points` meets its contract: the tests of the shape stand before that of the values. Assumes nothing.
use Rattle.std.proofs.Common.{rules, ◌≡◌, Err, map, sym, ◌∙◌}
use Rattle.knots_tests.proofs.Shape.{refused_by_shape, passed_by_shape}
use Rattle.knots_tests.proofs.test_points.Goals as goal

pub returns-in_err-test_shape : goal.returns-in_err-test_shape
returns-in_err-test_shape c =
    let e : c.from_residual.result ≡ Err c.in_err-test_shape.field-0.0 = search rules in
    e ∙ sym (refused_by_shape _ _ (map (λ xs. xs.now) c.args.axes.now) _ _ (sym c.test_shape.ensures ∙ c.in_err-test_shape.was))

pub returns-then-some_unfit : goal.returns-then-some_unfit
returns-then-some_unfit c =
    sym (passed_by_shape _ _ (map (λ xs. xs.now) c.args.axes.now) _ (sym c.test_shape.ensures ∙ c.in_ok-test_shape.was) ∙ rw (← c.if-some_unfit.ensures))

pub returns : goal.returns
returns c = sym (passed_by_shape _ _ (map (λ xs. xs.now) c.args.axes.now) _ (sym c.test_shape.ensures ∙ c.in_ok-test_shape.was) ∙ rw (← c.if-some_unfit.ensures))
