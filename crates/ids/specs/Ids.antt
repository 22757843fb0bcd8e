-- Ids as the code finds them, in two dimensions and three: three coordinates, the first n axes in turn.
use Rattle.std.specs.Prelude.{ℕ, ◌/◌, ◌%◌, ◌≤◌, ◌<◌, List, [], ◌∷◌}
use Rattle.rules.specs.Halving.{walk}

-- the id of the cell at x, y, z
unfoldable pub id_on : List ℕ → ℕ → ℕ → ℕ → ℕ → ℕ → ℕ → ℕ
id_on s n k first x y z = walk s n k first 1 0 (x ∷ y ∷ z ∷ [])

-- the id of cell c of a grid with sides w, h and any
unfoldable pub id_at : List ℕ → ℕ → ℕ → ℕ → ℕ → ℕ → ℕ → ℕ
id_at s n k first w h c = id_on s n k first (c % w) (c / w % h) (c / w / h)

-- at most three axes, and the first to be cut
pub record Axes (n first : ℕ) : Type 0 where
  pub few : n ≤ 3
  pub axis : first < n
