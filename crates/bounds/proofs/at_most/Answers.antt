-- Both sides have room.
use Rattle.bounds.proofs.Sides.{fits}
use Rattle.bounds.proofs.at_most.Goals as goal

pub scaled-right-requires-clause-fits : goal.scaled-right-requires-clause-fits
scaled-right-requires-clause-fits c = rw c.from.ensures (fits c.requires.y_bound.0 c.requires.y_bound.2 c.requires.k_le_top_depth)

pub scaled-requires-clause-fits : goal.scaled-requires-clause-fits
scaled-requires-clause-fits c = rw c.from-2.ensures (fits c.requires.x_bound.0 c.requires.x_bound.2 c.requires.k_le_top_depth)
