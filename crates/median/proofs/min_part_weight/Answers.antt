-- `min_part_weight` meets its contract: lo, worked out in f64, is the exact fraction rounded down, and in edition 2 up.
use Rattle.std.proofs.Common.{ℕ, ◌*◌, ◌/◌, ◌∙◌, ap, sym}
use native.Mathlib.Nat.{add-zero}
use Rattle.rules.specs.Halving.{edition_of}
use Rattle.halving_laws.proofs.Floors.{lo_is_floor}
use Rattle.halving_laws.proofs.Ceilings.{lo_up_is_ceiling}
use Rattle.halving_laws.proofs.Editions.{only_2_is_edition_2}
use Rattle.median.proofs.min_part_weight.Goals as goal

pub returns-then-edition-eq-EDITION_2 : goal.returns-then-edition-eq-EDITION_2
unfolding edition_of
returns-then-edition-eq-EDITION_2 c = rw c.if-edition-eq-EDITION_2.true (sym (lo_up_is_ceiling c.args.total c.requires))

pub returns : goal.returns
returns c =
    rw (only_2_is_edition_2 c.args.edition c.if-edition-eq-EDITION_2.false)
    (ap (λ (n : ℕ). n / 200) (add-zero (99 * c.args.total)) ∙ sym (lo_is_floor c.args.total c.requires))
