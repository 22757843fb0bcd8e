-- Five steps from one run. Assumes nothing.
use Rattle.std.proofs.Common.{refl, ◌∙◌}
use lib.Bits.{and_mask}
use Rattle.curve_laws.proofs.SpreadInSteps.{five_steps}
use Rattle.spread.proofs.Masks.{every_second}
use Rattle.spread.proofs.spread_2d.Goals as goal

pub returns : goal.returns
returns c =
    let s = c.args.source in
    five_steps 0 s (and_mask s 32) c.step-by16.ensures refl c.step-by8.ensures refl c.step-by4.ensures refl c.step-by2.ensures refl
    c.step.ensures refl
    ∙ every_second s
