-- A refused call writes nothing, and any other is accepted, put in order and given its parts.
use Rattle.std.proofs.Common.{ap, sym, ◌∙◌}
use Rattle.std.proofs.lemmas.Result.{err_from_is_err_and}
use lib.Dec.{lit≤}
use Rattle.requests.specs.Parts.{Parted}
use Rattle.parts_laws.proofs.Accepted.{lengths_fit, accepted, refused, answered}
use Rattle.parts.proofs.parts_along.Goals as goal

pub returns-in_err-test-clause-number : goal.returns-in_err-test-clause-number
returns-in_err-test-clause-number c =
    let p = err_from_is_err_and c.from_residual.result c.from_residual.ensures.1 in
    rw (p.1, p.2) (sym (ap (λ (o : Parted). o.number) (refused _ _ _ _ _ _ c.in_err-test.ensures)))

pub returns-in_err-test-clause-parts : goal.returns-in_err-test-clause-parts
returns-in_err-test-clause-parts c = sym (ap (λ (o : Parted). o.parts) (refused _ _ _ _ _ _ c.in_err-test.ensures))

pub returns-in_err-test-clause-order : goal.returns-in_err-test-clause-order
returns-in_err-test-clause-order c = sym (ap (λ (o : Parted). o.order) (refused _ _ _ _ _ _ c.in_err-test.ensures))

pub in_order-requires-clause-indices_len_bound : goal.in_order-requires-clause-indices_len_bound
in_order-requires-clause-indices_len_bound c = (accepted _ _ _ _ _ (sym c.in_ok-test.ensures)).short

pub in_order-requires-clause-points_len : goal.in_order-requires-clause-points_len
in_order-requires-clause-points_len c = lengths_fit _ _ _ _ _ (sym c.in_ok-test.ensures) 2 (lit≤ tt)

pub assign-requires-clause-accepted : goal.assign-requires-clause-accepted
assign-requires-clause-accepted c = accepted _ _ _ _ _ (sym c.in_ok-test.ensures)

pub assign-requires-clause-parts_len : goal.assign-requires-clause-parts_len
assign-requires-clause-parts_len c = lengths_fit _ _ _ _ _ (sym c.in_ok-test.ensures) 1 (lit≤ tt)

pub returns-clause-number : goal.returns-clause-number
returns-clause-number c = sym (ap (λ (o : Parted). o.number) (answered _ _ _ _ _ (sym c.in_ok-test.ensures)))

pub returns-clause-parts : goal.returns-clause-parts
returns-clause-parts c = c.assign.ensures ∙ sym (ap (λ (o : Parted). o.parts) (answered _ _ _ _ _ (sym c.in_ok-test.ensures)))

pub returns-clause-order : goal.returns-clause-order
returns-clause-order c = c.in_order.ensures ∙ sym (ap (λ (o : Parted). o.order) (answered _ _ _ _ _ (sym c.in_ok-test.ensures)))
