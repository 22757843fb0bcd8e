-- At order 32 of the 2D curve every index of 64 bits has a cell, so that refusal 3 cannot come there. Assumes nothing.
use Prim.Native.Nat.{ℕ, ◌^◌, ◌<◌}
use mathlib.Core.Path.{◌≡◌, ap}
use lib.Dec.{lit≤}
use Rattle.rules.specs.Curve.{decode2}
use Rattle.rules.specs.Refusals.{read_cell2}
use Rattle.curve_laws.proofs.Refusals.{decode2_cell}

pub every_index_at_32 : (index : ℕ) → index < 2 ^ 64 → (read_cell2 (decode2 index 32)).number ≡ 0
every_index_at_32 index h = ap (λ c. (read_cell2 c).number) (decode2_cell index 32 (lit≤ tt) h)
