-- No second answer fits the contract of a public function, nor of one that other crates call. Assumes nothing.
use Rattle.std.proofs.Common.{sym, ◌∙◌}
use Rattle.laws.proofs.Only.{Only}
use Rattle.axis_cell.proofs.low_of.Kinds as low-of-kinds
use Rattle.axis_cell.proofs.low_of.Reads as low-of-reads
use Rattle.axis_cell.proofs.high_of.Kinds as high-of-kinds
use Rattle.axis_cell.proofs.high_of.Reads as high-of-reads
use Rattle.axis_cell.proofs.order_of.Kinds as order-of-kinds
use Rattle.axis_cell.proofs.order_of.Reads as order-of-reads
use Rattle.axis_cell.proofs.made_up.Kinds as made-up-kinds
use Rattle.axis_cell.proofs.made_up.Reads as made-up-reads
use Rattle.axis_cell.proofs.cell_on.Kinds as cell-on-kinds
use Rattle.axis_cell.proofs.cell_on.Reads as cell-on-reads
use Rattle.axis_cell.proofs.cell.Kinds as cell-kinds
use Rattle.axis_cell.proofs.cell.Reads as cell-reads

pub low_of_only : Only low-of-kinds.ps low-of-kinds.r low-of-reads.Post
low_of_only κs a y z e f p q = p ∙ sym q

pub high_of_only : Only high-of-kinds.ps high-of-kinds.r high-of-reads.Post
high_of_only κs a y z e f p q = p ∙ sym q

pub order_of_only : Only order-of-kinds.ps order-of-kinds.r order-of-reads.Post
order_of_only κs a y z e f p q = p ∙ sym q

pub made_up_only : Only made-up-kinds.ps made-up-kinds.r made-up-reads.Post
made_up_only κs a y z e f p q = p ∙ sym q

pub cell_on_only : Only cell-on-kinds.ps cell-on-kinds.r cell-on-reads.Post
cell_on_only κs a y z e f p q = p ∙ sym q

pub cell_only : Only cell-kinds.ps cell-kinds.r cell-reads.Post
cell_only κs a y z e f p q = p ∙ sym q
