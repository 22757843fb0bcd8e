-- A call on given axes: the tests of its shape, and behind them what is asked of the axes and their points. Assumes nothing.
use Prim.Native.Nat.{ℕ, ◌≤◌, ◌<◌}
use mathlib.Core.Path.{◌≡◌, refl, sym, ap, subst, ◌∙◌}
use mathlib.Core.List.{List, [], ◌∷◌, map}
use lib.ListN.{length, get_or}
use lib.Ieee.{Float}
use Rattle.std.specs.Prelude.{Result, Ok, Err}
use Rattle.std.specs.List.{All}
use Rattle.std.proofs.lemmas.List.{length-map, get_or-map}
use Rattle.rules.specs.Sums.{list}
use Rattle.rules.specs.Refusals.{Test, nought, answer_by, number_of}
use Rattle.rules.specs.Axis.{cell_on}
use Rattle.rules.specs.declared.refusal.Refusal.{Refusal}
use Rattle.laws.proofs.Behind.{refused_before, passed_before}
use Rattle.laws.proofs.Lists.{list_ext}
use Rattle.laws.proofs.Readings.{answered_by}
use Rattle.points.specs.Cells.{cells, Taken}
use Rattle.points.specs.declared.Placed.{Placed}
use Rattle.knots_tests.specs.Tests.{count, lengths, shape_tests}
use Rattle.knots_tests.proofs.Shape.{Shaped, shaped}
use Rattle.knots_tests.proofs.Filed.{files_refusal, files_answer}
use Rattle.knots_given.specs.Given.{questions, asked_of, on_tests}
use Rattle.given_tests.specs.Placed.{given}
use Rattle.knots_on.specs.On.{given_tests, index_given}

abbrev points : List Placed → List (List Float)
points axes = map (λ p. p.points.now) axes

given_points : (axes : List Placed) → map (λ g. g.points) (map given axes) ≡ points axes
given_points [] = refl
given_points (p ∷ axes) = ap (λ (l : List (List Float)). p.points.now ∷ l) (given_points axes)

cells_given : (i : ℕ) (axes : List Placed) → cells axes i ≡ map (λ g. cell_on g.axis (get_or g.points i nought)) (map given axes)
cells_given i [] = refl
cells_given i (p ∷ axes) = ap (λ (l : List ℕ). cell_on p.axis (get_or p.points.now i nought) ∷ l) (cells_given i axes)

-- answer is that of the tests of the shape
module _ (most top : ℕ) (top_is : top ≡ most) (index_at : ℕ → List ℕ → ℕ) (axes : List Placed) (some : 0 < length axes) (order : ℕ) (before : List ℕ)
    (answer : Result (Unit {0}) Refusal) (is : answer ≡ answer_by (shape_tests top order (count (points axes)) (lengths (points axes) (length before))) tt) where
  shape : List Test
  shape = shape_tests most order (count (points axes)) (lengths (points axes) (length before))

  tests : List Test
  tests = given_tests most order (map given axes) (length before)

  written : List ℕ
  written = list (λ i. index_at order (map (λ g. cell_on g.axis (get_or g.points i nought)) (map given axes))) (count (map (λ g. g.points) (map given axes)))

  by_most : answer ≡ answer_by shape tt
  unfolding shape
  by_most = is ∙ ap (λ (t : ℕ). answer_by {A = Unit {0}} (shape_tests t order (count (points axes)) (lengths (points axes) (length before))) tt) top_is

  pub shape_files : (r : Refusal) → answer ≡ Err r
      → record { value : number_of r ≡ (index_given most index_at (map given axes) order before).number; indices_after : before ≡ (index_given most index_at (map given axes) order before).indices }
  unfolding index_given written tests shape on_tests shape_tests
  shape_files r e =
      files_refusal tests written before r
      (rw given_points (refused_before tt tt (asked_of (map given axes) (questions order)) shape r (sym by_most ∙ e)))

  module _ (passed : answer ≡ Ok tt) where
    fit : Shaped most order (length before) (points axes)
    unfolding shape
    fit =
        shaped most order (length before) (points axes) (rw length-map some)
        (answered_by {A = Unit {0}} shape tt tt (sym by_most ∙ passed)).0

    pub order_few : order ≤ most
    order_few = fit.few

    pub all_taken : All (λ p. Taken (length p.points.now) order p) axes → All (Taken (length before) order) axes
    all_taken taken k d h =
        let here : k < length (points axes) = rw length-map h in
        let as_many = sym (ap length (get_or-map (λ p. p.points.now) axes k d [] h)) ∙ fit.as_many k here in
        subst (λ (m : ℕ). Taken m order (get_or axes k d)) as_many (taken k d h)

    -- and asked that of what is asked of the axes
    module _ (asked : Result (Unit {0}) Refusal) (asked_is : asked ≡ answer_by (asked_of (map given axes) (questions order)) tt) where
      all_tested : asked ≡ answer_by tests tt
      unfolding tests shape on_tests shape_tests
      all_tested =
          asked_is
          ∙ rw given_points (sym (passed_before tt tt (asked_of (map given axes) (questions order)) shape tt (sym by_most ∙ passed)))

      pub axes_file : (r : Refusal) → asked ≡ Err r
          → record { value : number_of r ≡ (index_given most index_at (map given axes) order before).number; indices_after : before ≡ (index_given most index_at (map given axes) order before).indices }
      unfolding index_given written tests
      axes_file r e = files_refusal tests written before r (sym all_tested ∙ e)

      pub files_all : asked ≡ Ok tt → (after : List ℕ) → after ≡ list (λ i. index_at order (cells axes i)) (length before)
          → record { value : 0 ≡ (index_given most index_at (map given axes) order before).number; indices_after : after ≡ (index_given most index_at (map given axes) order before).indices }
      unfolding index_given written tests
      files_all e after w = files_answer tests written before after (sym all_tested ∙ e) (w ∙ rw (given_points, fit.counted) (list_ext _ _ (length before) (λ k h. ap (index_at order) (cells_given k axes))))
