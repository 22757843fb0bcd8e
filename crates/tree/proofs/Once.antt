-- No second outcome fits the contract of a function that another crate calls: of what a tree leaves in the sums nothing is told,
-- since they are room that no caller reads. Assumes nothing.
use mathlib.Core.Path.{refl}
use Rattle.laws.proofs.Only.{OnlyLeaving, same}
use Rattle.tree.proofs.recurse.Kinds as recurse-kinds
use Rattle.tree.proofs.recurse.Reads as recurse-reads

pub recurse_only : OnlyLeaving recurse-kinds.ps recurse-kinds.r recurse-reads.Post (λ κs e. e.1.1.1.1.1.0.now)
recurse_only κs a y z e f p q = (refl, same p q)
