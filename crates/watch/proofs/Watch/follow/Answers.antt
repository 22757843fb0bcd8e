-- There are at most 4,096 parts.
use Rattle.std.proofs.Common.{arith}
use Rattle.replay_laws.proofs.Sums.{few_parts}
use Rattle.watch.proofs.Watch.follow.Goals as goal

pub bounds-parts-self : goal.bounds-parts-self
bounds-parts-self c = omega (arith, few_parts c.requires.depth_bound.0, c.requires.was.inside)

pub bounds-parts-part : goal.bounds-parts-part
bounds-parts-part c = omega (arith, few_parts c.requires.depth_bound.0, c.requires.depth_bound.1)
