-- No second answer fits the contract of a function that another crate calls. Assumes nothing.
use Prim.Native.Nat.{ℕ}
use mir.Syntax.{w64}
use mir.Val.{Fits}
use Rattle.laws.proofs.Only.{Only, same}
use Rattle.cell_tests.proofs.tested.Kinds as tested-kinds
use Rattle.cell_tests.proofs.tested.Reads as tested-reads

-- in any number of dimensions
module _ (D : ℕ) (f : Fits w64 D) where
  pub tested_only : Only (tested-kinds.ps D f) (tested-kinds.r D f) (tested-reads.Post D f)
  tested_only κs a y z e h p q = same p q
