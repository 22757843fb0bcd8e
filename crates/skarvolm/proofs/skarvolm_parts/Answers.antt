-- `skarvolm_parts` meets its contract: it hands its call on.
use Rattle.std.proofs.Common.{◌∙◌}
use Rattle.skarvolm.proofs.Numbers.{stands_for}
use Rattle.skarvolm.proofs.skarvolm_parts.Goals as goal

pub returns : goal.returns
returns c = let e = c.parts_along.ensures in record { number = stands_for _ _ c.refusal_of.ensures ∙ e.number; parts = e.parts; order = e.order }
