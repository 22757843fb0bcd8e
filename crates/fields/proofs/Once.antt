-- No second answer fits the contract of a public function. Assumes nothing.
use mathlib.Core.Path.{◌≡◌}
use contract.Lifetimes.{Lfts}
use denote.Triple.Clauses.{AtExit}
use borrow.Fn.Kinds.{Dens, res_t, ended_of}
use Rattle.laws.proofs.Only.{Only, same}
use Rattle.fields.proofs.field_at.Kinds as field-at-kinds
use Rattle.fields.proofs.field_at.Reads as field-at-reads
use Rattle.fields.proofs.line.Span.of.Kinds as of-kinds
use Rattle.fields.proofs.line.Span.of.Reads as of-reads
use Rattle.fields.proofs.line.Fields.ahead.Kinds as ahead-kinds
use Rattle.fields.proofs.line.Fields.ahead.Reads as ahead-reads

pub field_at_only : Only field-at-kinds.ps field-at-kinds.r field-at-reads.Post
field_at_only κs a y z e f p q = same p q

pub of_only : (κs : Lfts 1) (a : Dens κs of-kinds.ps) (y z : (res_t of-kinds.r κs).Denot) (e f : AtExit (ended_of 1 of-kinds.ps of-kinds.r) κs)
    → of-reads.Post κs a y e → of-reads.Post κs a z f → y.now ≡ z.now
of_only κs a y z e f p q = same p q

pub ahead_only : Only ahead-kinds.ps ahead-kinds.r ahead-reads.Post
ahead_only κs a y z e f p q = same p q
