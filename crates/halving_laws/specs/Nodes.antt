-- The nodes of a tree of splits, and the blocks at its end.
use Rattle.std.specs.Prelude.{ℕ, zero, suc, ◌+◌, ◌-◌, ◌*◌, ◌^◌, ◌≤◌, ◌<◌, Bool, true, false, List, length, ltb}
use Rattle.rules.specs.Grid.{Block, whole, before, after}
use Rattle.rules.specs.Refusals.{top_depth}
use Rattle.rules.specs.Halving.{next_axis, cut}

-- n splits have places for d levels from a node on
pub record Room (node d n : ℕ) : Type 0 where
  pub first : 1 ≤ node
  pub room : (node + 1) * 2 ^ d ≤ 2 * (n + 1)

-- the same of splits for no more levels than a halving has
pub record Places (node d n : ℕ) : Type 0 where
  pub room : Room node d n
  pub short : n < 2 ^ top_depth

unfoldable pub choose : Bool → Block → Block → Block
choose true b c = b
choose false b c = c

-- the block d levels below a node at the end of the path of r: r below 2 ^ (d - 1) goes left
unfoldable pub leaf : List ℕ → ℕ → ℕ → ℕ → ℕ → Block → ℕ → Block
leaf s n zero a node b r = b
leaf s n (suc d) a node b r =
    choose (ltb r (2 ^ d))
    (leaf s n d (next_axis n a) (2 * node) (before a (cut s node) b) r)
    (leaf s n d (next_axis n a) (2 * node + 1) (after a (cut s node) b) (r - 2 ^ d))

-- the block of an id
unfoldable pub block_of : List ℕ → ℕ → ℕ → List ℕ → ℕ → Block
block_of sides first k s i = leaf s (length sides) k first 1 (whole sides) i
