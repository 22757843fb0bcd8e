-- `max_part_weight` meets its contract: hi, worked out in f64, is the whole part of the exact fraction.
use Rattle.std.proofs.Common.{ℕ, ◌*◌, ◌/◌, ◌∙◌, ap, sym}
use native.Mathlib.Nat.{add-zero}
use Rattle.halving_laws.proofs.Floors.{hi_is_floor}
use Rattle.median.proofs.max_part_weight.Goals as goal

pub returns : goal.returns
returns c = ap (λ (n : ℕ). n / 200) (add-zero (101 * c.args.total)) ∙ sym (hi_is_floor _ c.requires)
