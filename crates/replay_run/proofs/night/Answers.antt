-- The first halving is in force when the events begin.
use Rattle.std.proofs.Common.{arith}
use Rattle.blocks.proofs.AsBlocks.{axes_are}
use Rattle.replay_laws.proofs.InForce.{fresh}
use Rattle.replay_run.proofs.night.Goals as goal

pub run-requires-clause-in_force : goal.run-requires-clause-in_force
run-requires-clause-in_force c =
    let g = c.args.halving.grid in fresh c.requires.accepted (omega (arith, axes_are g, g.axes_fit)) c.begin.auto.splits c.begin.ensures.ids
