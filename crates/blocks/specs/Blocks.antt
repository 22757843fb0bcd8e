-- Halvings, grids and blocks as the code holds them, in two dimensions and three: always three sides, of which the rules know those of the grid's axes.
use Rattle.std.specs.Prelude.{ℕ, ◌+◌, ◌-◌, ◌*◌, min, List, [], ◌∷◌}
use lib.ListN.{take, set}
use Rattle.rules.specs.Grid.{Range, Block, on}
use Rattle.rules.specs.Halving as rule
use Rattle.blocks.specs.declared.grid.Grid.{Grid}
use Rattle.blocks.specs.declared.block.SubGrid.{SubGrid}
use Rattle.blocks.specs.declared.halving.Halving.{Halving}

-- the axis of a number: every number from 2 on is z's
abbrev pub across : ℕ → ℕ
across n = min n 2

-- the sides on a grid's axes
abbrev pub sides_of : Grid → List ℕ
sides_of g = take g.axes g.sides

-- the rules' halving that a halving of the code stands for
abbrev pub rule_of : Halving → rule.Halving
rule_of h = record { edition = h.edition; sides = sides_of h.grid; first = h.first; depth = h.depth }

-- n coordinates from low on
abbrev pub from : ℕ → ℕ → Range
from low n = record { low = low; high = low + n }

-- low edges and sides as ranges
unfoldable pub ranges : List ℕ → List ℕ → Block
ranges [] sides = []
ranges (x ∷ xs) [] = []
ranges (x ∷ xs) (s ∷ sides) = from x s ∷ ranges xs sides

-- the rules' block, of n axes, that a block of the code stands for
abbrev pub as_block : ℕ → SubGrid → Block
as_block n b = take n (ranges b.low b.sides)

-- how far apart two cells lie that differ by one, on each axis
abbrev pub strides : Grid → List ℕ
strides g = 1 ∷ on g.sides 0 ∷ on g.sides 0 * on g.sides 1 ∷ []

-- the number of the cell at a block's low corner
abbrev pub start : Grid → SubGrid → ℕ
start g b = on b.low 0 + on g.sides 0 * (on b.low 1 + on g.sides 1 * on b.low 2)

-- the grid as a block
abbrev pub whole_of : Grid → SubGrid
whole_of g = record { low = 0 ∷ 0 ∷ 0 ∷ []; sides = g.sides }

-- n lines of a block across an axis, from line i on, and line i
abbrev pub lines : ℕ → SubGrid → ℕ → ℕ → SubGrid
lines a b i n = record { low = set b.low a (on b.low a + i); sides = set b.sides a n }

abbrev pub slab : ℕ → SubGrid → ℕ → SubGrid
slab a b i = lines a b i 1

-- the first c lines of a block, and the rest of it
abbrev pub left_part : ℕ → SubGrid → ℕ → SubGrid
left_part a b c = record { low = b.low; sides = set b.sides a c }

abbrev pub right_part : ℕ → SubGrid → ℕ → SubGrid
right_part a b c = lines a b c (on b.sides a - c)
