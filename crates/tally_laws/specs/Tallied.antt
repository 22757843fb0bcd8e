-- Running sums that are those of the weights and ids at hand.
use Rattle.std.specs.Prelude.{ℕ, ◌+◌, ◌*◌, ◌<◌, ◌≡◌, List, get_or, length}
use Rattle.rules.specs.Grid.{on, whole, all_weight, line, heaviest_line}
use Rattle.rules.specs.Demands.{part_weight}

-- T is the weight of all cells, M that of the heaviest line, ls has the lines across each axis, and ps the parts
pub record Tallied (sides ws ids : List ℕ) (T M : ℕ) (ls ps : List ℕ) : Type 0 where
  pub all : T ≡ all_weight sides ws
  pub heaviest : M ≡ heaviest_line sides ws
  pub lines : (a j : ℕ) → a < length sides → j < on sides a → get_or ls (a * 1024 + j) 0 ≡ line sides ws (whole sides) a j
  pub parts : (i : ℕ) → i < 4096 → get_or ps i 0 ≡ part_weight sides ws ids i
  pub lines_long : length ls ≡ 3072
  pub parts_long : length ps ≡ 4096
