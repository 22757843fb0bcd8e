-- `rcb` meets its contract: a refused call writes nothing, and any other is accepted and halved.
use Rattle.std.proofs.Common.{◌∙◌, ap, sym}
use Rattle.std.proofs.lemmas.Result.{err_from_is_err_and}
use Rattle.rules.specs.Halving.{Halved}
use Rattle.halving_laws.proofs.Accepted.{accepted}
use Rattle.halving_laws.proofs.Answers.{refused, answered}
use Rattle.halving.proofs.rcb.Goals as goal

pub returns-in_err-tests-clause-number : goal.returns-in_err-tests-clause-number
returns-in_err-tests-clause-number c =
    let p = err_from_is_err_and c.from_residual.result c.from_residual.ensures.1 in
    rw (p.1, p.2) (sym (ap (λ (o : Halved). o.number) (refused _ _ _ _ _ c.in_err-tests.ensures)))

pub returns-in_err-tests-clause-splits : goal.returns-in_err-tests-clause-splits
returns-in_err-tests-clause-splits c = sym (ap (λ (o : Halved). o.splits) (refused _ _ _ _ _ c.in_err-tests.ensures))

pub returns-in_err-tests-clause-ids : goal.returns-in_err-tests-clause-ids
returns-in_err-tests-clause-ids c = sym (ap (λ (o : Halved). o.ids) (refused _ _ _ _ _ c.in_err-tests.ensures))

pub halve-requires : goal.halve-requires
halve-requires c = accepted _ _ _ _ (sym c.in_ok-tests.ensures)

pub returns-clause-number : goal.returns-clause-number
returns-clause-number c = sym (ap (λ (o : Halved). o.number) (answered _ _ _ _ (sym c.in_ok-tests.ensures)))

pub returns-clause-splits : goal.returns-clause-splits
returns-clause-splits c = c.halve.ensures.splits ∙ sym (ap (λ (o : Halved). o.splits) (answered _ _ _ _ (sym c.in_ok-tests.ensures)))

pub returns-clause-ids : goal.returns-clause-ids
returns-clause-ids c = c.halve.ensures.ids ∙ sym (ap (λ (o : Halved). o.ids) (answered _ _ _ _ (sym c.in_ok-tests.ensures)))
