-- No second answer fits the contract of a function that another crate calls. Assumes nothing.
use mathlib.Core.Path.{◌≡◌}
use contract.Lifetimes.{Lfts}
use denote.Triple.Clauses.{AtExit}
use borrow.Fn.Kinds.{Dens, res_t, ended_of}
use Rattle.laws.proofs.Only.{Only, same}
use Rattle.blocks.proofs.Alike.{halving_once}
use Rattle.blocks.proofs.halving.HalvingFromHalving2.from.Kinds as from-2d-kinds
use Rattle.blocks.proofs.halving.HalvingFromHalving2.from.Reads as from-2d-reads
use Rattle.blocks.proofs.halving.HalvingFromHalving3.from.Kinds as from-3d-kinds
use Rattle.blocks.proofs.halving.HalvingFromHalving3.from.Reads as from-3d-reads
use Rattle.blocks.proofs.grid.Grid.sides.Kinds as sides_Kinds
use Rattle.blocks.proofs.grid.Grid.sides.Reads as sides-reads
use Rattle.blocks.proofs.grid.Grid.cells.Kinds as cells_Kinds
use Rattle.blocks.proofs.grid.Grid.cells.Reads as cells-reads
use Rattle.blocks.proofs.grid.Grid.whole.Kinds as whole_Kinds
use Rattle.blocks.proofs.grid.Grid.whole.Reads as whole-reads
use Rattle.blocks.proofs.grid.Grid.corner.Kinds as corner-kinds
use Rattle.blocks.proofs.grid.Grid.corner.Reads as corner-reads
use Rattle.blocks.proofs.grid.Grid.strides.Kinds as strides-kinds
use Rattle.blocks.proofs.grid.Grid.strides.Reads as strides-reads
use Rattle.blocks.proofs.grid.Grid.stride.Kinds as stride-kinds
use Rattle.blocks.proofs.grid.Grid.stride.Reads as stride-reads
use Rattle.blocks.proofs.block.across.Kinds as across-kinds
use Rattle.blocks.proofs.block.across.Reads as across-reads
use Rattle.blocks.proofs.block.SubGrid.side.Kinds as side-kinds
use Rattle.blocks.proofs.block.SubGrid.side.Reads as side-reads
use Rattle.blocks.proofs.block.SubGrid.split.Kinds as split-kinds
use Rattle.blocks.proofs.block.SubGrid.split.Reads as split-reads
use Rattle.blocks.proofs.block.SubGrid.left_part.Kinds as left-part-kinds
use Rattle.blocks.proofs.block.SubGrid.left_part.Reads as left-part-reads
use Rattle.blocks.proofs.block.SubGrid.right_part.Kinds as right-part-kinds
use Rattle.blocks.proofs.block.SubGrid.right_part.Reads as right-part-reads

pub from_2d_only : Only from-2d-kinds.ps from-2d-kinds.r from-2d-reads.Post
from_2d_only κs a y z e f p q = halving_once y z (same p q)

pub from_3d_only : Only from-3d-kinds.ps from-3d-kinds.r from-3d-reads.Post
from_3d_only κs a y z e f p q = halving_once y z (same p q)

pub sides_only : (κs : Lfts 1) (a : Dens κs sides_Kinds.ps) (y z : (res_t sides_Kinds.r κs).Denot) (e f : AtExit (ended_of 1 sides_Kinds.ps sides_Kinds.r) κs)
    → sides-reads.Post κs a y e → sides-reads.Post κs a z f → y.now ≡ z.now
sides_only κs a y z e f p q = same p q

pub cells_only : Only cells_Kinds.ps cells_Kinds.r cells-reads.Post
cells_only κs a y z e f p q = same p q

pub whole_only : Only whole_Kinds.ps whole_Kinds.r whole-reads.Post
whole_only κs a y z e f p q = same p q

pub corner_only : Only corner-kinds.ps corner-kinds.r corner-reads.Post
corner_only κs a y z e f p q = same p q

pub strides_only : Only strides-kinds.ps strides-kinds.r strides-reads.Post
strides_only κs a y z e f p q = same p q

pub stride_only : Only stride-kinds.ps stride-kinds.r stride-reads.Post
stride_only κs a y z e f p q = same p q

pub across_only : Only across-kinds.ps across-kinds.r across-reads.Post
across_only κs a y z e f p q = same p q

pub side_only : Only side-kinds.ps side-kinds.r side-reads.Post
side_only κs a y z e f p q = same p q

pub split_only : Only split-kinds.ps split-kinds.r split-reads.Post
split_only κs a y z e f p q = same p q

pub left_part_only : Only left-part-kinds.ps left-part-kinds.r left-part-reads.Post
left_part_only κs a y z e f p q = same p q

pub right_part_only : Only right-part-kinds.ps right-part-kinds.r right-part-reads.Post
right_part_only κs a y z e f p q = same p q
