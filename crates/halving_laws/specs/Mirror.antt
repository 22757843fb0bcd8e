-- A grid in 2D and its mirror image, in which x and y have changed places.
use Rattle.std.specs.Prelude.{ℕ, zero, suc, ◌+◌, ◌*◌, ◌/◌, ◌%◌, List, get_or}
use Rattle.rules.specs.Sums.{list}
use Rattle.rules.specs.declared.Halving2.{Halving2}

-- the other one of two axes
unfoldable pub other : ℕ → ℕ
other zero = 1
other (suc a) = 0

abbrev pub mirror_halving : Halving2 → Halving2
mirror_halving h = record { edition = h.edition; width = h.height; height = h.width; first = other h.first; depth = h.depth }

-- what stands in the cells of a grid of this width and height, as its mirror image has it: its cell (x, y) is the grid's (y, x)
unfoldable pub mirror_cells : ℕ → ℕ → List ℕ → List ℕ
mirror_cells width height xs = list (λ c. get_or xs (c / height + width * (c % height)) 0) (width * height)
