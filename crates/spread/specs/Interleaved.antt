-- The z-order of a cell. Assumes nothing.
use Rattle.std.specs.Prelude.{◌≡◌, ℕ, ◌*◌, ◌^◌, ◌<◌}
use Rattle.rules.specs.Curve.{level, quadrant}

-- z has the quadrants of the cell c as its levels below the order, and no other
pub record Interleaved (d order : ℕ) (c : ℕ → ℕ) (z : ℕ) : Type 0 where
  pub at : (k : ℕ) → k < order → level d k z ≡ quadrant d k c
  pub below : z < 2 ^ (d * order)
