-- No second answer fits the contract of a public function, nor of one that other crates call. Assumes nothing.
use mathlib.Core.Path.{sym, ◌∙◌}
use Rattle.laws.proofs.Only.{Only}
use Rattle.extent.proofs.extent_of.Kinds as extent-of-kinds
use Rattle.extent.proofs.extent_of.Reads as extent-of-reads

pub extent_of_only : Only extent-of-kinds.ps extent-of-kinds.r extent-of-reads.Post
extent_of_only κs a y z e f p q = p ∙ sym q
