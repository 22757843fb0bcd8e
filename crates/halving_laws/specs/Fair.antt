-- Fair cuts, whoever made them, and where the uncut mark stands.
use Rattle.std.specs.Prelude.{ℕ, zero, suc, ◌+◌, ◌*◌, ◌≤◌, ◌<◌, ◌≡◌, ◌⊎◌, List, length}
use Rattle.rules.specs.Grid.{Block, edge, side, before, after, weight, heaviest}
use Rattle.rules.specs.Halving.{next_axis, cut, uncut}

-- the cut of a block at c is fair: its left part is not too heavy, nor too light by more than the heaviest line
pub record FairCut (sides ws : List ℕ) (a c : ℕ) (b : Block) : Type 0 where
  pub light : 200 * weight sides ws (before a c b) ≤ 101 * weight sides ws b
  pub heavy : 99 * weight sides ws b ≤ 200 * (weight sides ws (before a c b) + heaviest sides ws b a)

-- each block of d levels below a node has side 0 or is fairly cut
unfoldable pub FairTree : List ℕ → List ℕ → List ℕ → ℕ → ℕ → ℕ → Block → Type 0
FairTree sides ws s zero a node b = Unit {0}
FairTree sides ws s (suc d) a node b =
    (side a b ≡ 0)
    ⊎ (FairCut sides ws a (cut s node) b
    × FairTree sides ws s d (next_axis (length sides) a) (2 * node) (before a (cut s node) b)
    × FairTree sides ws s d (next_axis (length sides) a) (2 * node + 1) (after a (cut s node) b))

-- d levels from a node on carry the uncut mark
unfoldable pub AllUncut : List ℕ → ℕ → ℕ → Type 0
AllUncut s zero node = Unit {0}
AllUncut s (suc d) node = (cut s node ≡ uncut) × AllUncut s d (2 * node) × AllUncut s d (2 * node + 1)

-- the uncut mark stands just where a block has side 0 or lies below such a one, and each cut is another number and lies in its block
unfoldable pub Structured : List ℕ → ℕ → ℕ → ℕ → ℕ → Block → Type 0
Structured s n zero a node b = Unit {0}
Structured s n (suc d) a node b =
    ((side a b ≡ 0) × AllUncut s (suc d) node)
    ⊎ ((0 < side a b) × (cut s node ≡ uncut → ⊥) × (edge a b ≤ cut s node) × (cut s node < edge a b + side a b)
    × Structured s n d (next_axis n a) (2 * node) (before a (cut s node) b)
    × Structured s n d (next_axis n a) (2 * node + 1) (after a (cut s node) b))
