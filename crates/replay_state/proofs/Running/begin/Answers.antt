-- An accepted grid is not refused, a fresh halving is in force, and the sums are taken of it.
use Rattle.std.proofs.Common.{arith}
use Rattle.blocks.proofs.AsBlocks.{axes_are}
use Rattle.replay_laws.proofs.InForce.{fresh, named}
use Rattle.replay_laws.proofs.Sums.{parts-named}
use Rattle.replay_state.proofs.Halved.{splits_left, ids_left}
use Rattle.replay_state.proofs.Running.begin.Goals as goal

pub count-requires-clause-named : goal.count-requires-clause-named
count-requires-clause-named c =
    let g = c.args.halving.grid in
    parts-named c.requires.accepted.shallow (named (fresh c.requires.accepted (omega (arith, axes_are g, g.axes_fit)) c.rcb.auto.splits (ids_left c.requires.accepted c.rcb.ensures.ids)))

pub returns-clause-splits : goal.returns-clause-splits
returns-clause-splits c = splits_left c.requires.accepted c.rcb.ensures.splits

pub returns-clause-ids : goal.returns-clause-ids
returns-clause-ids c = ids_left c.requires.accepted c.rcb.ensures.ids
