-- The tests of a call on the axes over the points: those that need no axis, and behind them whether an axis is thin. Assumes nothing.
use Prim.Native.Nat.{ℕ, ◌<◌}
use mathlib.Core.Path.{◌≡◌, ◌∙◌}
use mathlib.Core.Bool.{true, false}
use mathlib.Core.List.{List, [], ◌∷◌}
use lib.ListN.{length, get_or}
use lib.Ieee.{Float}
use Rattle.std.specs.Prelude.{Ok, Err}
use Rattle.rules.specs.Sums.{any}
use Rattle.rules.specs.Refusals.{test, value_unfit, answer_by, index_tests}
use Rattle.rules.specs.Knots.{some_unfit, some_thin}
use Rattle.rules.specs.declared.refusal.Refusal.{Refusal}
use Rattle.rules.specs.declared.refusal.Refusal.TheVariants.{Thin}
use Rattle.rules.specs.Demands.{NonePasses}
use Rattle.laws.proofs.Any.{none_at}
use Rattle.laws.proofs.Behind.{refused_before, passed_before}
use Rattle.laws.proofs.Exactly.{exactly, none_passes}
use Rattle.laws.proofs.Readings.{answered_by}
use Rattle.knots_tests.specs.Tests.{count, lengths, shape_tests, point_tests, over_tests}
use Rattle.knots_tests.proofs.Shape.{Shaped, shaped}

module _ (most order : ℕ) (axes : List (List Float)) (m : ℕ) where
  pub refused_early : (r : Refusal) → answer_by {A = Unit {0}} (point_tests most order axes m) tt ≡ Err r → answer_by {A = Unit {0}} (over_tests most order axes m) tt ≡ Err r
  unfolding index_tests shape_tests
  refused_early = refused_before tt tt (test (some_thin axes) Thin ∷ []) (point_tests most order axes m)

  module _ (e : answer_by {A = Unit {0}} (point_tests most order axes m) tt ≡ Ok tt) where
    thin_last : answer_by {A = Unit {0}} (over_tests most order axes m) tt ≡ answer_by (test (some_thin axes) Thin ∷ []) tt
    unfolding index_tests shape_tests
    thin_last = passed_before tt tt (test (some_thin axes) Thin ∷ []) (point_tests most order axes m) tt e

    pub refused_thin : some_thin axes ≡ true → answer_by {A = Unit {0}} (over_tests most order axes m) tt ≡ Err Thin
    refused_thin t = thin_last ∙ rw t

    pub not_refused : some_thin axes ≡ false → answer_by {A = Unit {0}} (over_tests most order axes m) tt ≡ Ok tt
    not_refused t = thin_last ∙ rw t

    none : NonePasses (point_tests most order axes m)
    none = none_passes (point_tests most order axes m) (answered_by {A = Unit {0}} (point_tests most order axes m) tt tt e).0

    pub shape_fits : 0 < length axes → Shaped most order m axes
    unfolding shape_tests
    shape_fits h =
        shaped most order m axes h
        ((exactly (shape_tests most order (count axes) (lengths axes m))).none (none.0, (none.1.0, (none.1.1.0, tt))))

    pub values_fit : (i : ℕ) → i < length axes → any value_unfit (get_or axes i []) ≡ false
    unfolding shape_tests some_unfit
    values_fit = none_at (any value_unfit) [] axes none.1.1.1.0
