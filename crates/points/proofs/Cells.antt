-- The cells of a point on axes that take their points lie below 2^order. Assumes nothing.
use Prim.Native.Nat.{ℕ, ◌<◌, ◌^◌}
use mathlib.Core.List.{List}
use Rattle.std.specs.List.{All}
use Rattle.std.proofs.lemmas.List.Elements.{All-map}
use Rattle.points.specs.Cells.{cells, Taken}
use Rattle.points.specs.declared.Placed.{Placed}

pub cells_below : (axes : List Placed) (n order i : ℕ) → i < n → All (Taken n order) axes → All (λ c. c < 2 ^ order) (cells axes i)
cells_below axes n order i h taken = All-map (λ c. c < 2 ^ order) _ axes (λ k p l. (taken k p l).below i h)
