-- No second answer fits the contract of a function that another crate calls. Assumes nothing.
use Prim.Native.Nat.{ℕ}
use mathlib.Core.Path.{◌≡◌, ap, ap₂, sym, ◌∙◌}
use Rattle.rules.specs.Sums.{total}
use Rattle.laws.proofs.Only.{Only, same}
use Rattle.median.specs.Median.{CutIs}
use Rattle.median.specs.declared.WeightedMedian.{WeightedMedian}
use Rattle.median.proofs.min_part_weight.Kinds as min-part-weight-kinds
use Rattle.median.proofs.min_part_weight.Reads as min-part-weight-reads
use Rattle.median.proofs.max_part_weight.Kinds as max-part-weight-kinds
use Rattle.median.proofs.max_part_weight.Reads as max-part-weight-reads
use Rattle.median.proofs.weighted_median.Kinds as weighted-median-kinds
use Rattle.median.proofs.weighted_median.Reads as weighted-median-reads

-- the rule's cut is one
pub one_cut : (a : ℕ → ℕ) (m lo hi : ℕ) (y z : WeightedMedian)
    → CutIs a m lo hi y.position y.left → CutIs a m lo hi z.position z.left → y ≡ z
one_cut a m lo hi y z p q =
    let at : y.position ≡ z.position = same p.place q.place in
    ap₂ made at (p.weight ∙ ap (total a) at ∙ sym q.weight)
  where
    made : ℕ → ℕ → WeightedMedian
    made at left = record { position = at; left = left }

pub min_part_weight_only : Only min-part-weight-kinds.ps min-part-weight-kinds.r min-part-weight-reads.Post
min_part_weight_only κs a y z e f p q = same p q

pub max_part_weight_only : Only max-part-weight-kinds.ps max-part-weight-kinds.r max-part-weight-reads.Post
max_part_weight_only κs a y z e f p q = same p q

pub weighted_median_only : Only weighted-median-kinds.ps weighted-median-kinds.r weighted-median-reads.Post
weighted_median_only κs a y z e f p q = one_cut _ _ _ _ y z p q
