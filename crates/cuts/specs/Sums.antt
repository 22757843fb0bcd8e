-- Weights of blocks as the code sums them, and which can be summed.
use Rattle.std.specs.Prelude.{ℕ, ◌+◌, ◌*◌, ◌≤◌, ◌<◌, ◌≡◌, List, ◌++◌, length, drop}
use Rattle.rules.specs.Sums.{list}
use Rattle.rules.specs.Grid.{on}
use Rattle.rules.specs.Refusals.{top_side}
use Rattle.lines.specs.Stacks.{solid_sum, Light}
use Rattle.lines.specs.declared.Stack.{Stack}
use Rattle.blocks.specs.Blocks.{start, slab}
use Rattle.blocks.specs.declared.grid.Grid.{Grid}
use Rattle.blocks.specs.declared.block.SubGrid.{SubGrid}

-- a block of a grid as a stack of cells
abbrev pub stack_of : Grid → SubGrid → Stack
stack_of g b = record { width = on b.sides 0; row = on g.sides 0; height = on b.sides 1; layer = on g.sides 0 * on g.sides 1; layers = on b.sides 2 }

-- the sum over all cells of a block, and of its line i
unfoldable pub solid : Grid → List ℕ → SubGrid → ℕ
solid g ws b = solid_sum ws (start g b) (stack_of g b) (on b.sides 2)

abbrev pub line_weight : Grid → List ℕ → ℕ → SubGrid → ℕ → ℕ
line_weight g ws a b i = solid g ws (slab a b i)

-- the sums once they are filled: the lines' weights, and behind them what stood there
abbrev pub filled : Grid → List ℕ → ℕ → SubGrid → List ℕ → List ℕ
filled g ws a b sums = list (line_weight g ws a b) (on b.sides a) ++ drop (on b.sides a) sums

-- all weights of the grid can be read and added
pub record Readable (g : Grid) (ws : List ℕ) : Type 0 where
  pub sides_fit : (a : ℕ) → a < 3 → on g.sides a ≤ top_side
  pub long : on g.sides 0 * (on g.sides 1 * on g.sides 2) ≤ length ws
  pub light : Light ws

-- the block lies in the grid
pub record Lies (g : Grid) (b : SubGrid) : Type 0 where
  pub low_long : length b.low ≡ 3
  pub sides_long : length b.sides ≡ 3
  pub inside : (a : ℕ) → a < 3 → on b.low a + on b.sides a ≤ on g.sides a
