-- What is known of a call for parts that is not refused. Assumes nothing.
use Rattle.std.specs.Prelude.{ℕ, ◌≤◌, ◌<◌, ◌≡◌, List, length}
use Rattle.rules.specs.Refusals.{top_weight}
use Rattle.requests.specs.Order.{top_points, at}
use Rattle.requests.specs.Parts.{top_parts}

-- of the part count, indices and weights
pub record Accepted (n : ℕ) (ix ws : List ℕ) : Type 0 where
  pub some : 1 ≤ n
  pub few : n ≤ top_parts
  pub points : 1 ≤ length ix
  pub short : length ix ≤ top_points
  pub weights_long : length ws ≡ length ix
  pub light : (p : ℕ) → p < length ws → at ws p ≤ top_weight
