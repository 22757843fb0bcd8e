-- `knots_tests::test_shape` meets its contract: the lengths of the slices are compared with that of the first. Assumes nothing.
use Rattle.std.proofs.Common.{rules, ◌≡◌, Err, length, sym, ap, ◌∙◌}
use Rattle.knots_tests.proofs.Shape.{refused_by_lengths, passed_by_lengths}
use Rattle.knots_tests.proofs.test_shape.Goals as goal

pub returns-in_err-test_lengths : goal.returns-in_err-test_lengths
returns-in_err-test_lengths g c =
    let e : c.from_residual.result ≡ Err c.in_err-test_lengths.field-0.0 = search rules in
    e ∙ sym (refused_by_lengths g.P.Points.points_of _ _ _ _ _ _ _ c.in-Some.ensures.cases.0 (ap length c.points-n.ensures) _ (sym c.test_lengths-2.ensures ∙ c.in_err-test_lengths.was))

pub returns-then-lengths_differ : goal.returns-then-lengths_differ
returns-then-lengths_differ g c =
    sym (passed_by_lengths g.P.Points.points_of _ _ _ _ _ _ _ c.in-Some.ensures.cases.0 (ap length c.points-n.ensures) (sym c.test_lengths-2.ensures ∙ c.in_ok-test_lengths.was)
    ∙ rw (← c.lengths_differ.ensures, c.if-lengths_differ.true))

pub returns : goal.returns
returns g c =
    sym (passed_by_lengths g.P.Points.points_of _ _ _ _ _ _ _ c.in-Some.ensures.cases.0 (ap length c.points-n.ensures) (sym c.test_lengths-2.ensures ∙ c.in_ok-test_lengths.was)
    ∙ rw (← c.lengths_differ.ensures, c.if-lengths_differ.false))
