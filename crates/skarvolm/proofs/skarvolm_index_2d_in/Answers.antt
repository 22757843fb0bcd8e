-- `skarvolm_index_2d_in` meets its contract: it hands its call on.
use Rattle.std.proofs.Common.{◌∙◌}
use Rattle.skarvolm.proofs.Numbers.{stands_for}
use Rattle.skarvolm.proofs.skarvolm_index_2d_in.Goals as goal

pub returns : goal.returns
returns c = record { number = stands_for _ _ c.refusal_of.ensures ∙ c.index_2d_in.ensures.value; filed = c.index_2d_in.ensures.indices_after }
