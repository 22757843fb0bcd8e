-- A turn takes one event, and after the last one every answer is written.
use Rattle.std.proofs.Common.{◌≡◌, length, ap, ◌∙◌, arith}
use Rattle.requests.specs.Replay.{night, said_at}
use Rattle.blocks.specs.Blocks.{rule_of}
use Rattle.replay_run.proofs.Went.{at_first, one_more, all_said}
use Rattle.replay_run.proofs.run.Goals as goal

pub loop-event-init : goal.loop-event-init
loop-event-init c =
    let a = c.args in
    let r = c.requires in
    at_first (rule_of a.halving) (night a.weights.now a.cells.now a.amounts.now) a.answers.now r.splits_value.0 r.splits_value.1 r.in_force r.runs

pub loop-event-preserved : goal.loop-event-preserved
loop-event-preserved c =
    let a = c.args in
    let e = c.step-answer.ensures in
    one_more (rule_of a.halving) (night a.weights.now a.cells.now a.amounts.now) a.answers.now c.loop-event.invariant (omega (arith, c.requires.lengths.1))
    (c.number.ensures ∙ e.said) e.weights e.splits e.ids c.step-answer.auto.splits e.runs

pub returns-clause-answers : goal.returns-clause-answers
returns-clause-answers c =
    let a = c.args in
    let t = night a.weights.now a.cells.now a.amounts.now in
    let e : c.loop-event.event ≡ length a.cells.now = omega arith in
    all_said (rule_of a.halving) t a.answers.now c.loop-event.invariant (omega (arith, c.requires.lengths.1)) ∙ ap (said_at t) e
