-- Ids in force that are as they should be.
use Rattle.std.specs.Prelude.{ℕ, ◌^◌, ◌≤◌, ◌<◌, List, get_or, length}
use Rattle.rules.specs.Grid.{all_weight, heaviest_line}
use Rattle.rules.specs.Halving.{Halving}
use Rattle.rules.specs.Demands.{part_weight, Balanced}
use Rattle.halving_laws.specs.Accepted.{Accepted}

-- weights, splits and ids of a call that is not refused, of at most three axes; each id is one of the parts, and each part keeps to the bounds
pub record InForce (h : Halving) (ws splits ids : List ℕ) : Type 0 where
  pub axes : length h.sides ≤ 3
  pub accepted : Accepted h ws splits ids
  pub below : (c : ℕ) → c < length ids → get_or ids c 0 < 2 ^ h.depth
  pub bounds : (i : ℕ) → i < 2 ^ h.depth → Balanced h.depth (part_weight h.sides ws ids i) (all_weight h.sides ws) (heaviest_line h.sides ws)
