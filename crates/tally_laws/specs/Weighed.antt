-- Weights and ids that have sums: of a grid of at most three axes, with the limits of 01.
use Rattle.std.specs.Prelude.{ℕ, ◌+◌, ◌≤◌, ◌<◌, ◌≡◌, List, get_or, length, set}
use Rattle.rules.specs.Grid.{cells, on}
use Rattle.rules.specs.Refusals.{top_side, top_cells, top_weight}

pub record Sided (sides : List ℕ) : Type 0 where
  pub axes : length sides ≤ 3
  pub sides_fit : (a : ℕ) → a < length sides → (1 ≤ on sides a) × (on sides a ≤ top_side)
  pub few : cells sides ≤ top_cells

pub record Weighed (sides ws : List ℕ) : Type 0 where
  pub sided : Sided sides
  pub long : length ws ≡ cells sides
  pub light : (c : ℕ) → c < length ws → get_or ws c 0 ≤ top_weight

-- every id is below n
pub record Named (n : ℕ) (sides ids : List ℕ) : Type 0 where
  pub long : length ids ≡ cells sides
  pub below : (c : ℕ) → c < length ids → get_or ids c 0 < n

-- the weights after an amount at a cell
abbrev pub heavier : List ℕ → ℕ → ℕ → List ℕ
heavier ws c v = set ws c (get_or ws c 0 + v)

-- a cell can take an amount
pub record Takes (ws : List ℕ) (c v : ℕ) : Type 0 where
  pub inside : c < length ws
  pub light : get_or ws c 0 + v ≤ top_weight
