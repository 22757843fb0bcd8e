-- `most` is a heaviest of those passed, and of the first at the start.
use Rattle.std.proofs.Common.{max}
use Rattle.watch.specs.Watched.{Heaviest}
use Rattle.watch.proofs.heaviest.Given as goal

abbrev pub invariant-loop-id : goal.invariant-loop-id
invariant-loop-id l = Heaviest (max 1 l.id) l.parts l.most
