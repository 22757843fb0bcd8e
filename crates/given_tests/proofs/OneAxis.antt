-- One axis takes its points where no question passes of it. Assumes nothing.
use Prim.Native.Nat.{ℕ, ◌<◌}
use mathlib.Core.Path.{◌≡◌, refl, sym, ap, subst, ◌∙◌}
use mathlib.Core.Bool.{false, not}
use mathlib.Core.List.{List, map}
use lib.Dec.{T, eqb}
use borrow.Author.Tests.{eqb-true, not-false}
use lib.ListN.{length, get_or}
use lib.Ieee.{Float}
use Rattle.std.specs.Prelude.{Ok}
use Rattle.std.specs.List.{All}
use Rattle.rules.specs.Sums.{any}
use Rattle.rules.specs.Refusals.{first_of, nought, value_unfit, outside, cell_tests}
use Rattle.rules.specs.Knots.{some_unfit}
use Rattle.rules.specs.Axis.{make_axis, low_of, high_of, order_of, made_up}
use Rattle.rules.specs.declared.Axis.{Axis}
use Rattle.laws.proofs.Any.{neither, none_at, any_map}
use Rattle.axis_laws.proofs.Passed.{inside_answered}
use Rattle.axis_laws.proofs.MadeUp.{in_format, answered, made_anew, not_made_up}
use Rattle.axis_laws.proofs.CellBelow.{on_below}
use Rattle.axis_laws.proofs.AxisAccepts.{ends_of, in_format_lem}
use Rattle.knots_given.specs.Given.{foreign}
use Rattle.points.specs.Takes.{Takes}
use Rattle.points.specs.Cells.{Taken}
use Rattle.points.specs.declared.Placed.{Placed}
use Rattle.given_tests.specs.Placed.{given}

-- a record of f64s that is not made up is what making it anew gives, at its own order
pub foreign_by_order : (a : Axis) (order own : ℕ) → made_up a ≡ false → T (in_format a) → order_of a ≡ own
    → (not (eqb own order) ≡ foreign order a) × (not (eqb own order) ≡ false → make_axis (low_of a) (high_of a) order ≡ Ok a)
unfolding foreign
foreign_by_order a order own up f64s is =
    (rw (up, is), λ e. let own_is : own ≡ order = eqb-true own order (not-false _ e) in subst (λ (o : ℕ). make_axis (low_of a) (high_of a) o ≡ Ok a) (is ∙ own_is) (made_anew a f64s up))

module _ (xs : List Float) (a : Axis) (order : ℕ) where
  -- an axis that is made of its ends at this order
  module _ (is : make_axis (low_of a) (high_of a) order ≡ Ok a) (fit : any value_unfit xs ≡ false) (within : any (outside (low_of a) (high_of a)) xs ≡ false) where
    own_order : order_of a ≡ order
    own_order = ap order_of (sym (answered _ _ order a is).1) ∙ (ends_of _ _ order).2

    f64s : T (in_format a)
    f64s = let r = answered _ _ order a is in subst (λ (b : Axis). T (in_format b)) r.1 (in_format_lem _ _ order r.0)

    accepted : (x : Float) → value_unfit x ≡ false → outside (low_of a) (high_of a) x ≡ false → first_of (cell_tests (made_up a) (low_of a) (high_of a) x) ≡ 0
    accepted x f o =
        let n = neither _ _ o in
        inside_answered _ _ _ _ (record { made = not_made_up a (rw own_order is); value_fit = f; not-below = n.0; not_above = n.1 })

    at : (i : ℕ) → i < length xs → first_of (cell_tests (made_up a) (low_of a) (high_of a) (get_or xs i nought)) ≡ 0
    at i h = accepted (get_or xs i nought) (none_at value_unfit nought xs fit i h) (none_at (outside (low_of a) (high_of a)) nought xs within i h)

    pub accepting : Takes xs (length xs) order a
    accepting =
        record {
          all = refl;
          accepts = at;
          below = λ i h. rw (← own_order) (on_below a _ f64s (at i h));
        }

-- values on axes that are given, as the code asks of them
pub given_unfit : (axes : List Placed) → some_unfit (map (λ p. p.points.now) axes) ≡ any (λ g. any value_unfit g.points) (map given axes)
unfolding some_unfit
given_unfit axes = any_map (any value_unfit) (λ p. p.points.now) axes ∙ sym (any_map (λ g. any value_unfit g.points) given axes)

-- and so do several
pub all_take : (axes : List Placed) (order : ℕ) → All (λ p. make_axis (low_of p.axis) (high_of p.axis) order ≡ Ok p.axis) axes
    → any (λ g. any value_unfit g.points) (map given axes) ≡ false → any (λ g. any (outside (low_of g.axis) (high_of g.axis)) g.points) (map given axes) ≡ false
    → All (λ p. Taken (length p.points.now) order p) axes
all_take axes order made fit within k d h =
    accepting (get_or axes k d).points.now (get_or axes k d).axis order (made k d h)
    (none_at (λ p. any value_unfit p.points.now) d axes (sym (any_map (λ g. any value_unfit g.points) given axes) ∙ fit) k h)
    (none_at (λ p. any (outside (low_of p.axis) (high_of p.axis)) p.points.now) d axes (sym (any_map (λ g. any (outside (low_of g.axis) (high_of g.axis)) g.points) given axes) ∙ within) k h)
