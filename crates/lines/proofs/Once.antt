-- No second answer fits the contract of a function that another crate calls: neither another weight nor other sums. Assumes nothing.
use Rattle.laws.proofs.Only.{Only, OnlyLeaving, same}
use mathlib.Core.Path.{refl}
use Rattle.lines.proofs.solid.Kinds as solid-kinds
use Rattle.lines.proofs.solid.Reads as solid-reads
use Rattle.lines.proofs.line_sums.Kinds as line-sums-kinds
use Rattle.lines.proofs.line_sums.Reads as line-sums-reads

pub solid_only : Only solid-kinds.ps solid-kinds.r solid-reads.Post
solid_only κs a y z e f p q = same p q

pub line_sums_only : OnlyLeaving line-sums-kinds.ps line-sums-kinds.r line-sums-reads.Post (λ κs e. e.1.1.1.1.0.now)
line_sums_only κs a y z e f p q = (refl, same p q)
