-- No second outcome fits the contract of a function that another crate calls. Assumes nothing.
use Prim.Native.Nat.{ℕ}
use mathlib.Core.Path.{refl}
use mir.Syntax.{w64}
use mir.Val.{Fits}
use Rattle.laws.proofs.Only.{OnlyLeaving, same}
use Rattle.ids.proofs.write_rows.Kinds as write-rows-kinds
use Rattle.ids.proofs.write_rows.Reads as write-rows-reads
use Rattle.ids.proofs.write_ids.Kinds as write-ids-kinds
use Rattle.ids.proofs.write_ids.Reads as write-ids-reads

module _ (AXES : ℕ) (f : Fits w64 AXES) where
  pub write_rows_only : OnlyLeaving (write-rows-kinds.ps AXES f) (write-rows-kinds.r AXES f) (write-rows-reads.Post AXES f) (λ κs e. e.0.now)
  write_rows_only κs a y z e f p q = (refl, same p q)

pub write_ids_only : OnlyLeaving write-ids-kinds.ps write-ids-kinds.r write-ids-reads.Post (λ κs e. e.1.1.0.now)
write_ids_only κs a y z e f p q = (refl, same p q)
