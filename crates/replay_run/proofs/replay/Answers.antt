-- A refused call writes nothing, and any other is accepted and its night replayed.
use Rattle.std.proofs.Common.{refl, sym}
use Rattle.std.proofs.lemmas.Result.{err_from_is_err_and}
use Rattle.replay_laws.proofs.Accepted.{replay_accepted, amounts_long, answers_long, refused_leaves, answered_leaves}
use Rattle.replay_run.proofs.replay.Goals as goal

pub returns-in_err-tests : goal.returns-in_err-tests
returns-in_err-tests c =
    let p = err_from_is_err_and c.from_residual.result c.from_residual.ensures.1 in
    let l = refused_leaves _ _ _ _ _ _ _ _ c.in_err-tests.ensures in
    record { number = rw (p.1, p.2) l.0; weights = l.1.0; answers = l.1.1.0; splits = l.1.1.1.0; ids = l.1.1.1.1 }

pub night-requires : goal.night-requires
night-requires c =
    let e = sym c.in_ok-tests.ensures in
    record { lengths = (amounts_long _ _ _ _ _ _ _ e, answers_long _ _ _ _ _ _ _ e); accepted = replay_accepted _ _ _ _ _ _ _ e }

pub returns : goal.returns
returns c =
    let n = c.night.ensures in
    let l = answered_leaves _ _ _ _ _ _ _ (sym c.in_ok-tests.ensures) refl (n.weights, (n.answers, (n.splits, n.ids))) in
    record { number = l.0; weights = l.1.0; answers = l.1.1.0; splits = l.1.1.1.0; ids = l.1.1.1.1 }
