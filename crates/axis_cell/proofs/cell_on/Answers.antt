-- `axis_cell::cell_on` meets its contract: the axis accepts the value, so the product lies from 0 to 2^order, and its whole part is a u64. Assumes nothing.
use Rattle.std.proofs.Common.{◌≡◌, T, sym, ap, ◌∙◌, subst, rules}
use lib.Ieee.{binary64, fits}
use Rattle.rules.specs.Refusals.{first_of, cell_tests}
use Rattle.rules.specs.Axis.{made_up, low_of, high_of, cell_on}
use Rattle.rules.specs.declared.Axis.{Axis}
use Rattle.axis_laws.proofs.ProductBelow.{ready_lower, ready_upper}
use Rattle.axis_laws.proofs.CellBelow.{order_few, accepted_ready}
use Rattle.axis_cell.proofs.cell_on.Goals as goal

pub truncating_f64_to_u64-requires : goal.truncating_f64_to_u64-requires
truncating_f64_to_u64-requires c =
    let f64 : T (fits binary64 c.in-Sloped.factor) = search rules in
    let accepted = subst (λ (a : Axis). first_of (cell_tests (made_up a) (low_of a) (high_of a) c.args.value) ≡ 0) c.in-Sloped.is c.requires in
    let fine = accepted_ready _ _ _ _ _ f64 accepted in
    record { lower_bound = ready_lower _ _ fine; upper_bound = ready_upper _ _ (order_few _ _ _ _ _ f64 accepted) fine }

pub returns-in-Flat : goal.returns-in-Flat
unfolding cell_on
returns-in-Flat c = sym (ap (λ (a : Axis). cell_on a c.args.value) c.in-Flat.is)

pub returns-in-Sloped : goal.returns-in-Sloped
unfolding cell_on
returns-in-Sloped c = c.truncating_f64_to_u64.ensures ∙ sym (ap (λ (a : Axis). cell_on a c.args.value) c.in-Sloped.is)
