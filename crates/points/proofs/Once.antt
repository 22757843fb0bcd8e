-- No second answer fits the contract of a public function, nor of one that other crates call. Assumes nothing.
use mathlib.Core.Path.{◌≡◌, sym, ◌∙◌}
use mir.Syntax.{Dict}
use contract.Lifetimes.{Lfts}
use denote.RattleType.{RattleType}
use denote.Param.Laws.{Laws}
use denote.Triple.Clauses.{AtExit}
use borrow.Fn.Kinds.{Dens, res_t, ended_of}
use Rattle.laws.proofs.Only.{Only}
use Rattle.points.specs.declared.Points.{Ghosts}
use Rattle.points.proofs.RefSliceF64Points.points.Kinds as slice-points-kinds
use Rattle.points.proofs.RefSliceF64Points.points.Reads as slice-points-reads
use Rattle.points.proofs.PlacedPoints.points.Kinds as placed-points-kinds
use Rattle.points.proofs.PlacedPoints.points.Reads as placed-points-reads
use Rattle.points.proofs.some_unfit.Kinds as some-unfit-kinds
use Rattle.points.proofs.some_unfit.Reads as some-unfit-reads
use Rattle.points.proofs.any_unfit.Kinds as any-unfit-kinds
use Rattle.points.proofs.any_unfit.Reads as any-unfit-reads
use Rattle.points.proofs.axis_over.Kinds as axis-over-kinds
use Rattle.points.proofs.axis_over.Reads as axis-over-reads

pub any_unfit_only : Only any-unfit-kinds.ps any-unfit-kinds.r any-unfit-reads.Post
any_unfit_only κs a y z e f p q = p ∙ sym q

pub axis_over_only : Only axis-over-kinds.ps axis-over-kinds.r axis-over-reads.Post
axis_over_only κs a y z e f p q = p ∙ sym q

-- of whatever has points
module _ (P : RattleType) (l : Laws P) (points : Ghosts P.Denot) (d : Dict) where
  pub some_unfit_only : Only (some-unfit-kinds.ps P l) (some-unfit-kinds.r P l) (some-unfit-reads.Post P l points d)
  some_unfit_only κs a y z e f p q = p ∙ sym q

-- and of its points, which are lent
pub slice_points_only : (κs : Lfts 2) (a : Dens κs slice-points-kinds.ps) (y z : (res_t slice-points-kinds.r κs).Denot) (e f : AtExit (ended_of 2 slice-points-kinds.ps slice-points-kinds.r) κs)
    → slice-points-reads.Post κs a y e → slice-points-reads.Post κs a z f → y.now ≡ z.now
slice_points_only κs a y z e f p q = p ∙ sym q

pub placed_points_only : (κs : Lfts 2) (a : Dens κs placed-points-kinds.ps) (y z : (res_t placed-points-kinds.r κs).Denot) (e f : AtExit (ended_of 2 placed-points-kinds.ps placed-points-kinds.r) κs)
    → placed-points-reads.Post κs a y e → placed-points-reads.Post κs a z f → y.now ≡ z.now
placed_points_only κs a y z e f p q = p ∙ sym q
