-- No second outcome fits the contract of a public function: neither another number nor other parts or another order. Assumes nothing.
use Prim.Native.Nat.{ℕ}
use mathlib.Core.List.{List}
use Rattle.laws.proofs.Numbers.{same_answer}
use Rattle.laws.proofs.Only.{OnlyLeaving, same, both}
use Rattle.parts.proofs.parts_along.Kinds as parts-along-kinds
use Rattle.parts.proofs.parts_along.Reads as parts-along-reads

pub parts_along_only : OnlyLeaving {A = List ℕ × List ℕ} parts-along-kinds.ps parts-along-kinds.r parts-along-reads.Post (λ κs e. (e.1.1.1.0.now, e.1.1.1.1.0.now))
parts_along_only κs a y z e f p q = (same_answer y z (same p.0 q.0), both (same p.1.0 q.1.0) (same p.1.1 q.1.1))
