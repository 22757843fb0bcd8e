-- No second outcome fits the contract of a function that another crate calls: no other parts are left. Assumes nothing.
use mathlib.Core.Path.{refl}
use Rattle.laws.proofs.Only.{OnlyLeaving, same}
use Rattle.shares.proofs.assign.Kinds as assign-kinds
use Rattle.shares.proofs.assign.Reads as assign_reads

pub assign_only : OnlyLeaving assign-kinds.ps assign-kinds.r assign_reads.Post (λ κs e. e.1.1.1.1.0.now)
assign_only κs a y z e f p q = (refl, same p q)
