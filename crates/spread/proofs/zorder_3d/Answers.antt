-- The masks are combs with a tooth for every level. Assumes nothing.
use Rattle.spread.proofs.Masks.{x_of_3, y_of_3}
use Rattle.spread.proofs.Zorder.{zorder3}
use Rattle.spread.proofs.zorder_3d.Goals as goal

pub returns : goal.returns
returns c =
    zorder3 _ _ _ _ c.requires.0 c.requires.1 c.requires.2 c.requires.3 (x_of_3 _ c.spread_3d.ensures)
    (y_of_3 _ c.spread_3d-2.ensures) c.spread_3d-3.ensures
