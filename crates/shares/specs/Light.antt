-- What the sum of weights asks for. Assumes nothing.
use Rattle.std.specs.Prelude.{ℕ, ◌≤◌, ◌<◌, List, length}
use Rattle.rules.specs.Refusals.{top_weight}
use Rattle.requests.specs.Order.{top_points, at}

-- no more weights than points may be, and none too heavy
pub record Light (ws : List ℕ) : Type 0 where
  pub short : length ws ≤ top_points
  pub light : (p : ℕ) → p < length ws → at ws p ≤ top_weight
