-- The masks are combs with a tooth for every level. Assumes nothing.
use Rattle.spread.proofs.Masks.{x_of_2}
use Rattle.spread.proofs.Zorder.{zorder2}
use Rattle.spread.proofs.zorder_2d.Goals as goal

pub returns : goal.returns
returns c =
    zorder2 _ _ _ c.requires.0 c.requires.1 c.requires.2 (x_of_2 _ c.spread_2d.ensures) c.spread_2d-2.ensures
