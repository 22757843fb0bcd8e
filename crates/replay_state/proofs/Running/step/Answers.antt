-- A refused event changes nothing, and an accepted one leaves ids that are in force.
use Rattle.std.proofs.Common.{ℕ, ◌≡◌, ◌<◌, List, ap, sym, ◌∙◌, arith}
use Rattle.rules.specs.Refusals.{number_of}
use Rattle.rules.specs.declared.refusal.Refusal.{Refusal}
use Rattle.rules.specs.Halving.{Halving, splits_by, ids_by}
use Rattle.requests.specs.Replay.{answer_to}
use Rattle.laws.proofs.Numbers.{number_above_0}
use Rattle.tally_laws.specs.Weighed.{Weighed, heavier, Takes}
use Rattle.blocks.specs.Blocks.{rule_of}
use Rattle.replay_laws.specs.InForce.{InForce}
use Rattle.replay_laws.proofs.Events.{told, added_is, added_not}
use Rattle.replay_laws.proofs.InForce.{weighed, taken_accepted}
use Rattle.replay_laws.proofs.Sums.{few_parts, tally_small, parts_small, broken_is}
use Rattle.replay_laws.proofs.Step.{left_refused, left_kept, made_anew}
use Rattle.replay_state.proofs.Running.step.Goals as goal

weighed-now : {h : Halving} {ws splits ids : List ℕ} {cell amount : ℕ} → InForce h ws splits ids → Takes ws cell amount → Weighed h.sides (heavier ws cell amount)
weighed-now g t = weighed (taken_accepted g t) g.axes

-- an event's refusal has a number
refused : (r : Refusal) (ws : List ℕ) (cell amount : ℕ) → number_of r ≡ answer_to ws cell amount → 0 < answer_to ws cell amount
refused r ws cell amount e = rw e at (number_above_0 r)

-- THE EVENT IS REFUSED

pub returns-in_err-test-clause-weights : goal.returns-in_err-test-clause-weights
returns-in_err-test-clause-weights c = sym (added_not _ _ _ (refused _ _ _ _ c.in_err-test.ensures))

pub returns-in_err-test-clause-splits : goal.returns-in_err-test-clause-splits
returns-in_err-test-clause-splits c = left_refused _ _ _ _ _ _ _ (refused _ _ _ _ c.in_err-test.ensures)

pub returns-in_err-test-clause-ids : goal.returns-in_err-test-clause-ids
returns-in_err-test-clause-ids c = left_refused _ _ _ _ _ _ _ (refused _ _ _ _ c.in_err-test.ensures)

-- IT IS ACCEPTED, AND ITS AMOUNT IS ADDED

pub accept-requires-clause-takes : goal.accept-requires-clause-takes
accept-requires-clause-takes c = told _ _ _ (sym c.in_ok-test.ensures)

pub broken-requires-clause-small : goal.broken-requires-clause-small
broken-requires-clause-small c =
    let g = c.requires.in_force in
    let small = tally_small (weighed-now g (told _ _ _ (sym c.in_ok-test.ensures))) c.accept.ensures.runs.sums in
    record { depth = g.accepted.shallow; all = omega (arith, small.0); line = omega (arith, small.1) }

pub broken-requires-clause-most_bound : goal.broken-requires-clause-most_bound
broken-requires-clause-most_bound c =
    let g = c.requires.in_force in
    let r = c.accept.ensures.runs in
    let most = parts_small (weighed-now g (told _ _ _ (sym c.in_ok-test.ensures))) r.sums c.accept.new.self.watch.most (omega (arith, r.watched.heaviest.inside, few_parts g.accepted.shallow)) in
    omega (arith, most)

pub returns-else-broken-clause-weights : goal.returns-else-broken-clause-weights
returns-else-broken-clause-weights c = c.accept.ensures.weights ∙ sym (added_is _ _ _ (sym c.in_ok-test.ensures))

pub returns-else-broken-clause-splits : goal.returns-else-broken-clause-splits
returns-else-broken-clause-splits c =
    let b = broken_is (rule_of c.args.halving) c.requires.in_force.accepted.shallow c.accept.ensures.runs.sums in
    left_kept _ _ _ _ _ _ _ (sym c.in_ok-test.ensures) (sym (c.broken.ensures ∙ b) ∙ c.if-broken.false)

pub returns-else-broken-clause-ids : goal.returns-else-broken-clause-ids
returns-else-broken-clause-ids c =
    let b = broken_is (rule_of c.args.halving) c.requires.in_force.accepted.shallow c.accept.ensures.runs.sums in
    left_kept _ _ _ _ _ _ _ (sym c.in_ok-test.ensures) (sym (c.broken.ensures ∙ b) ∙ c.if-broken.false)

-- IT BREAKS A BOUND

pub anew-requires : goal.anew-requires
anew-requires c = rw c.accept.ensures.weights (taken_accepted c.requires.in_force (told _ _ _ (sym c.in_ok-test.ensures)))

pub returns-then-broken-clause-weights : goal.returns-then-broken-clause-weights
returns-then-broken-clause-weights c = c.accept.ensures.weights ∙ sym (added_is _ _ _ (sym c.in_ok-test.ensures))

pub returns-then-broken-clause-splits : goal.returns-then-broken-clause-splits
returns-then-broken-clause-splits c =
    let h = rule_of c.args.halving in
    let b = broken_is h c.requires.in_force.accepted.shallow c.accept.ensures.runs.sums in
    made_anew _ _ _ _ _ (splits_by h) _ (sym c.in_ok-test.ensures) (sym (c.broken.ensures ∙ b) ∙ c.if-broken.true)
    (c.anew.ensures.splits ∙ ap (splits_by h) c.accept.ensures.weights)

pub returns-then-broken-clause-ids : goal.returns-then-broken-clause-ids
returns-then-broken-clause-ids c =
    let h = rule_of c.args.halving in
    let b = broken_is h c.requires.in_force.accepted.shallow c.accept.ensures.runs.sums in
    made_anew _ _ _ _ _ (ids_by h) _ (sym c.in_ok-test.ensures) (sym (c.broken.ensures ∙ b) ∙ c.if-broken.true)
    (c.anew.ensures.ids ∙ ap (ids_by h) c.accept.ensures.weights)
