-- What is known of a call that is not refused.
use Rattle.std.specs.Prelude.{ℕ, ◌-◌, ◌^◌, ◌≤◌, ◌<◌, ◌≡◌, false, List, get_or, length}
use Rattle.rules.specs.Grid.{cells, on}
use Rattle.rules.specs.Refusals.{top_side, top_cells, top_depth, top_weight, edition_unknown}
use Rattle.rules.specs.Halving.{Halving}

pub record Accepted (h : Halving) (ws splits ids : List ℕ) : Type 0 where
  pub edition_known : edition_unknown h.edition ≡ false
  pub first_fits : h.first < length h.sides
  pub sides_fit : (a : ℕ) → a < length h.sides → (1 ≤ on h.sides a) × (on h.sides a ≤ top_side)
  pub few : cells h.sides ≤ top_cells
  pub shallow : h.depth ≤ top_depth
  pub weights_long : length ws ≡ cells h.sides
  pub ids_long : length ids ≡ cells h.sides
  pub splits_long : length splits ≡ 2 ^ h.depth - 1
  pub light : (c : ℕ) → c < length ws → get_or ws c 0 ≤ top_weight
