-- `cells` meets its contract: fit sides have no product too large, and the layers of a grid in 2D, which is one, count nothing.
use Rattle.std.proofs.Common.{arith, sym}
use Rattle.blocks.proofs.AsBlocks.{few_cells, cells_are}
use Rattle.blocks.proofs.grid.Grid.cells.Goals as goal

pub overflow_mul-result : goal.overflow_mul-result
overflow_mul-result c = omega (arith, few_cells c.args.self c.requires)

pub overflow_mul-result-2 : goal.overflow_mul-result-2
overflow_mul-result-2 c = omega (arith, few_cells c.args.self c.requires)

pub returns : goal.returns
returns c = sym (cells_are c.args.self)
