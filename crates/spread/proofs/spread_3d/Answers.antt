-- Five steps from one run. Assumes nothing.
use Rattle.std.proofs.Common.{refl, ◌∙◌}
use lib.Bits.{and_mask}
use Rattle.curve_laws.proofs.SpreadInSteps.{five_steps}
use Rattle.spread.proofs.Masks.{every_third}
use Rattle.spread.proofs.spread_3d.Goals as goal

pub returns : goal.returns
returns c =
    let s = c.args.source in
    five_steps 1 s (and_mask s 32) c.step-by16.ensures refl c.step-by8.ensures refl c.step-by4.ensures refl c.step-by2.ensures refl
    c.step.ensures refl
    ∙ every_third s
