-- The extent is the first point, widened by the points so far. Assumes nothing.
use Rattle.std.proofs.Common.{◌≡◌, take}
use Rattle.std.specs.Prelude.{fold}
use Rattle.rules.specs.Axis.{widen}
use Rattle.extent.proofs.extent_of.Given as goal

abbrev pub invariant-loop-x : goal.invariant-loop-x
invariant-loop-x l = l.extent ≡ fold widen l.initial.extent (take l.x-index l.others)
