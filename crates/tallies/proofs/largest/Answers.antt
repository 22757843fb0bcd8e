-- A sum more.
use Rattle.std.proofs.Common.{refl}
use Rattle.rules.specs.Sums.{top}
use Rattle.tallies.proofs.Heaviest.{max_next}
use Rattle.tallies.proofs.largest.Goals as goal

pub loop-sum-init : goal.loop-sum-init
unfolding top
loop-sum-init c = refl

pub loop-sum-preserved : goal.loop-sum-preserved
loop-sum-preserved c = max_next _ _ c.loop-sum.invariant refl c.max-largest.ensures
