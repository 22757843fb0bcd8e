-- No second record fits the contract of `Halving2::of` and `Halving3::of`: what `Only` of crate `laws` says of a function, written out, since
-- that crate stands above this one. Assumes nothing.
use mathlib.Core.Path.{◌≡◌, sym, ◌∙◌}
use contract.Lifetimes.{Lfts}
use denote.Triple.Clauses.{AtExit}
use borrow.Fn.Kinds.{Dens, res_t, ended_of}
use Rattle.rules.proofs.Halving2.of.Kinds as of-2d-kinds
use Rattle.rules.proofs.Halving2.of.Reads as of-2d-reads
use Rattle.rules.proofs.Halving3.of.Kinds as of-3d-kinds
use Rattle.rules.proofs.Halving3.of.Reads as of-3d-reads

pub of_2d_only : (κs : Lfts 0) (a : Dens κs of-2d-kinds.ps) (y z : (res_t of-2d-kinds.r κs).Denot) (e f : AtExit (ended_of 0 of-2d-kinds.ps of-2d-kinds.r) κs)
    → of-2d-reads.Post κs a y e → of-2d-reads.Post κs a z f → y ≡ z
of_2d_only κs a y z e f p q = p ∙ sym q

pub of_3d_only : (κs : Lfts 0) (a : Dens κs of-3d-kinds.ps) (y z : (res_t of-3d-kinds.r κs).Denot) (e f : AtExit (ended_of 0 of-3d-kinds.ps of-3d-kinds.r) κs)
    → of-3d-reads.Post κs a y e → of-3d-reads.Post κs a z f → y ≡ z
of_3d_only κs a y z e f p q = p ∙ sym q
