-- `given_tests::is_foreign` meets its contract: a record of f64s that is not made up is what making it anew gives. Assumes nothing.
use mathlib.Core.Path.{◌≡◌, sym, ap, subst, ◌∙◌}
use mathlib.Core.Bool.{false, true≢false}
use lib.Dec.{T}
use lib.Ieee.{binary64, fits}
use borrow.Author.Rules.{rules}
use Rattle.rules.specs.Axis.{order_of, made_up}
use Rattle.rules.specs.declared.Axis.{Axis}
use Rattle.axis_laws.proofs.MadeUp.{in_format}
use Rattle.knots_given.specs.Given.{foreign}
use Rattle.given_tests.proofs.OneAxis.{foreign_by_order}
use Rattle.given_tests.proofs.is_foreign.Goals as goal

pub returns-then-made_up : goal.returns-then-made_up
unfolding foreign
returns-then-made_up c = record { value = rw (sym c.made_up.ensures ∙ c.if-made_up.true); order_value = λ e. absurd (true≢false e) }

pub returns : goal.returns
returns c =
    let not_up : made_up c.args.axis ≡ false = sym c.made_up.ensures ∙ c.if-made_up.false in
    let f64s : T (in_format c.args.axis) = search rules in
    let both = foreign_by_order _ c.args.order _ not_up f64s (sym c.order_of.ensures) in
    record { value = both.0; order_value = both.1 }
