-- `skarvolm_rcb_3d` meets its contract: it hands its call on, with the edition and the first axis of a call that names none.
use Rattle.std.proofs.Common.{◌∙◌}
use Rattle.skarvolm.proofs.Numbers.{stands_for}
use Rattle.skarvolm.proofs.skarvolm_rcb_3d.Goals as goal

pub returns : goal.returns
returns c =
    let e = rw c.of-halving.ensures at c.rcb_3d.ensures in
    record { number = stands_for _ _ c.refusal_of.ensures ∙ e.number; splits = e.splits; ids = e.ids }
