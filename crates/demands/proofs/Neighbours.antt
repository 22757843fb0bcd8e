-- REQUEST 13/14, neighbours on the curve: "any two successive indices below 4^order decode to cells that differ by exactly 1 in one coordinate
-- and not at all in the other", "index 0 is cell (0, 0) and the last index is cell (2^order - 1, 0)", at orders 0 to 32; and the same in 3D,
-- which is not asked, at orders 0 to 21. Assumes nothing.
use Rattle.rules.specs.Demands.{Neighbours2, Neighbours3, Ends2, Ends3}
use Rattle.curve_laws.proofs.NeighboursOnTheCurve.{neighbours_2d, neighbours_3d, ends_2d, ends_3d}

pub demand_neighbours_2d : Neighbours2
demand_neighbours_2d = neighbours_2d

pub demand_ends_2d : Ends2
demand_ends_2d = ends_2d

pub demand_neighbours_3d : Neighbours3
demand_neighbours_3d = neighbours_3d

pub demand_ends_3d : Ends3
demand_ends_3d = ends_3d
