-- The cells of a point: one on each axis.
use Rattle.std.specs.Prelude.{ℕ, List, map}
use Rattle.points.specs.Takes.{cell_at, Takes}
use Rattle.points.specs.declared.Placed.{Placed}

abbrev pub cells : List Placed → ℕ → List ℕ
cells axes i = map (λ p. cell_at p.axis p.points.now i) axes

-- the axis of n points takes them
abbrev pub Taken : ℕ → ℕ → Placed → Type 0
Taken n order p = Takes p.points.now n order p.axis
