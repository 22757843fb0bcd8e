-- What the pass along the order of points asks for. Assumes nothing.
use Rattle.std.specs.Prelude.{ℕ, ◌*◌, ◌≤◌, ◌<◌}
use Rattle.rules.specs.Refusals.{top_weight}
use Rattle.requests.specs.Order.{top_points}

-- the most that all points weigh
abbrev pub top_all : ℕ
top_all = top_points * top_weight

-- r is the last split of n, from k on, that the weight s reaches; t is the weight of all
pub record Advanced (k n t s r : ℕ) : Type 0 where
  pub on : k ≤ r
  pub below : r < n
  pub reached : (i : ℕ) → k < i → i ≤ r → i * t ≤ n * s
  pub missed : (i : ℕ) → r < i → i < n → n * s < i * t
