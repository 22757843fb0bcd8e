-- No second outcome fits the contract of `cell`: neither another number nor another value behind the pointer. Assumes nothing.
use Rattle.laws.proofs.Only.{OnlyLeaving, same}
use Rattle.axis_out.proofs.cell.Kinds as cell-kinds
use Rattle.axis_out.proofs.cell.Reads as cell-reads

pub cell_only : OnlyLeaving cell-kinds.ps cell-kinds.r cell-reads.Post (λ κs e. e.1.1.1.1.0.now)
cell_only κs a y z e f p q = (same p.0 q.0, same p.1 q.1)
