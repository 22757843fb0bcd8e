-- No second answer fits the contract of a public function, nor of one that other crates call. Assumes nothing.
use mathlib.Core.Path.{sym, ◌∙◌}
use Rattle.laws.proofs.Only.{Only}
use Rattle.axis_make.proofs.unfit.Kinds as unfit-kinds
use Rattle.axis_make.proofs.unfit.Reads as unfit-reads
use Rattle.axis_make.proofs.thin.Kinds as thin-kinds
use Rattle.axis_make.proofs.thin.Reads as thin_reads
use Rattle.axis_make.proofs.make_axis.Kinds as make-axis-kinds
use Rattle.axis_make.proofs.make_axis.Reads as make-axis-reads
use Rattle.axis_make.proofs.make_axis_default.Kinds as make-axis-default-kinds
use Rattle.axis_make.proofs.make_axis_default.Reads as make-axis-default-reads

pub unfit_only : Only unfit-kinds.ps unfit-kinds.r unfit-reads.Post
unfit_only κs a y z e f p q = p ∙ sym q

pub thin_only : Only thin-kinds.ps thin-kinds.r thin_reads.Post
thin_only κs a y z e f p q = p ∙ sym q

pub make_axis_only : Only make-axis-kinds.ps make-axis-kinds.r make-axis-reads.Post
make_axis_only κs a y z e f p q = p ∙ sym q

pub make_axis_default_only : Only make-axis-default-kinds.ps make-axis-default-kinds.r make-axis-default-reads.Post
make_axis_default_only κs a y z e f p q = p ∙ sym q
