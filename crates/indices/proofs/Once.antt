-- No second outcome fits the contract of a function that another crate calls. Assumes nothing.
use Prim.Native.Nat.{ℕ}
use mathlib.Core.Path.{refl}
use mir.Syntax.{Dict, w64}
use mir.Val.{Fits}
use denote.RattleType.{RattleType}
use denote.Param.{number, value_of}
use denote.Param.Laws.{Laws}
use Rattle.laws.proofs.Only.{OnlyLeaving, same}
use Rattle.indices.specs.declared.Curve.{Ghosts}
use Rattle.indices.proofs.write.Kinds as write-kinds
use Rattle.indices.proofs.write.Reads as write_reads

-- on any curve
module _ (D : ℕ) (C : RattleType) (f : Fits w64 D) (l : Laws C) (curve : Ghosts C.Denot (value_of (number D))) (c d : Dict) where
  pub write_only : OnlyLeaving (write-kinds.ps D C f l) (write-kinds.r D C f l) (write_reads.Post D C f l curve c d) (λ κs e. e.1.1.0.now)
  write_only κs a y z e f p q = (refl, same p q)
