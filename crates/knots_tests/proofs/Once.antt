-- No second answer fits the contract of a function that another crate calls. Assumes nothing.
use mir.Syntax.{Dict}
use denote.RattleType.{RattleType}
use denote.Param.Laws.{Laws}
use Rattle.laws.proofs.Only.{Only, same}
use Rattle.points.specs.declared.Points.{Ghosts}
use Rattle.knots_tests.proofs.test_shape.Kinds as test-shape-kinds
use Rattle.knots_tests.proofs.test_shape.Reads as test-shape-reads
use Rattle.knots_tests.proofs.test_lengths.Kinds as test-lengths-kinds
use Rattle.knots_tests.proofs.test_lengths.Reads as test-lengths-reads
use Rattle.knots_tests.proofs.test_points.Kinds as test-points-kinds
use Rattle.knots_tests.proofs.test_points.Reads as test-points-reads

pub test_lengths_only : Only test-lengths-kinds.ps test-lengths-kinds.r test-lengths-reads.Post
test_lengths_only κs a y z e f p q = same p q

-- of whatever has points
module _ (P : RattleType) (l : Laws P) (points : Ghosts P.Denot) (d : Dict) where
  pub test_shape_only : Only (test-shape-kinds.ps P l) (test-shape-kinds.r P l) (test-shape-reads.Post P l points d)
  test_shape_only κs a y z e f p q = same p q

pub test_points_only : Only test-points-kinds.ps test-points-kinds.r test-points-reads.Post
test_points_only κs a y z e f p q = same p q
