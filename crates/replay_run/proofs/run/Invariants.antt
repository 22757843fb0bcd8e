-- After so many events the running machine is where the plain one is.
use Rattle.requests.specs.Replay.{night}
use Rattle.blocks.specs.Blocks.{rule_of}
use Rattle.replay_run.proofs.Went.{Went}
use Rattle.replay_run.proofs.run.Given as goal

abbrev pub invariant-loop-event : goal.invariant-loop-event
invariant-loop-event l =
    Went (rule_of l.halving) (night l.initial.weights l.cells l.amounts) l.initial.answers l.event l.weights l.answers l.splits l.ids l.running
