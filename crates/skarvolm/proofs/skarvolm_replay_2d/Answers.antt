-- `skarvolm_replay_2d` meets its contract: it hands its call on, with edition 2.
use Rattle.std.proofs.Common.{◌∙◌}
use Rattle.skarvolm.proofs.Numbers.{stands_for}
use Rattle.skarvolm.proofs.skarvolm_replay_2d.Goals as goal

pub returns : goal.returns
returns c =
    let e = c.replay_2d.ensures in
    record { number = stands_for _ _ c.refusal_of.ensures ∙ e.number; weights = e.weights; answers = e.answers; splits = e.splits; ids = e.ids }
