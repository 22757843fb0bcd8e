-- No second outcome fits the contract of a function that another crate calls. Assumes nothing.
use Prim.Native.Nat.{ℕ}
use mathlib.Core.Path.{refl}
use mathlib.Core.List.{List}
use Rattle.laws.proofs.Only.{OnlyLeaving, same, both}
use Rattle.halve.proofs.halve.Kinds as halve-kinds
use Rattle.halve.proofs.halve.Reads as halve-reads

pub halve_only : OnlyLeaving {A = List ℕ × List ℕ} halve-kinds.ps halve-kinds.r halve-reads.Post (λ κs e. (e.1.1.0.now, e.1.1.1.0.now))
halve_only κs a y z e f p q = (refl, both (same p.0 q.0) (same p.1 q.1))
