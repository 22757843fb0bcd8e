-- No second answer fits the contract of a public function. Assumes nothing.
use Rattle.std.proofs.Common.{◌≡◌, ℕ, zero, suc, ◌+◌, ◌*◌, ◌%◌, ◌^◌, ◌<◌, sym, ap, ◌∙◌, ap₂, mod-eq_of_lt, mul-zero, arith}
use Rattle.rules.specs.Curve.{level}
use Rattle.laws.proofs.Only.{Only, same}
use Rattle.curve_laws.proofs.Parts.{level_more}
use Rattle.spread.specs.Interleaved.{Interleaved}
use Rattle.spread.proofs.deposit.Kinds as deposit-kinds
use Rattle.spread.proofs.deposit.Reads as deposit-reads
use Rattle.spread.proofs.zorder_2d.Kinds as zorder-2d-kinds
use Rattle.spread.proofs.zorder_2d.Reads as zorder-2d-reads
use Rattle.spread.proofs.zorder_3d.Kinds as zorder-3d-kinds
use Rattle.spread.proofs.zorder_3d.Reads as zorder-3d-reads

pub deposit_only : Only deposit-kinds.ps deposit-kinds.r deposit-reads.Post
deposit_only κs a y z e f p q = same p q

-- what has the same lowest n levels is the same below them
same_levels : (d n y z : ℕ) → ((k : ℕ) → k < n → level d k y ≡ level d k z) → y % 2 ^ (d * n) ≡ z % 2 ^ (d * n)
same_levels d zero y z h =
    let e : y % 2 ^ 0 ≡ z % 2 ^ 0 = omega arith in
    ap (λ (m : ℕ). y % 2 ^ m) (mul-zero d) ∙ e ∙ sym (ap (λ (m : ℕ). z % 2 ^ m) (mul-zero d))
same_levels d (suc n) y z h =
    sym (level_more d n y)
    ∙ ap₂ (λ (a b : ℕ). a * 2 ^ (d * n) + b) (h n (omega arith)) (same_levels d n y z (λ k l. h k (omega arith)))
    ∙ level_more d n z

-- a cell has one z-order
one_interleaved : {d order y z : ℕ} {c : ℕ → ℕ} → Interleaved d order c y → Interleaved d order c z → y ≡ z
one_interleaved {d} {order} {y} {z} p q =
    sym (mod-eq_of_lt p.below) ∙ same_levels d order y z (λ k h. same (p.at k h) (q.at k h)) ∙ mod-eq_of_lt q.below

pub zorder_2d_only : Only zorder-2d-kinds.ps zorder-2d-kinds.r zorder-2d-reads.Post
zorder_2d_only κs a y z e f p q = one_interleaved p q

pub zorder_3d_only : Only zorder-3d-kinds.ps zorder-3d-kinds.r zorder-3d-reads.Post
zorder_3d_only κs a y z e f p q = one_interleaved p q
