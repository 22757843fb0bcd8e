-- `skarvolm_index_3d` meets its contract: it hands its call on.
use Rattle.std.proofs.Common.{◌∙◌}
use Rattle.skarvolm.proofs.Numbers.{stands_for}
use Rattle.skarvolm.proofs.skarvolm_index_3d.Goals as goal

pub returns : goal.returns
returns c = record { number = stands_for _ _ c.refusal_of.ensures ∙ c.index_3d.ensures.value; filed = c.index_3d.ensures.indices_after }
