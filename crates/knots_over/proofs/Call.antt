-- A call on the axes over the points: points that pass the tests refuse an axis only for being thin, and an axis that is made takes its points.
-- Assumes nothing.
use Prim.Native.Nat.{ℕ, zero, suc, ◌+◌, ◌≤◌, ◌<◌}
use native.Mathlib.Omega.{arith}
use mathlib.Core.Path.{◌≡◌, refl, sym, ap, subst, ◌∙◌}
use mathlib.Core.Bool.{false}
use mathlib.Core.List.{List, [], ◌∷◌, ◌++◌, map}
use denote.Bor.{Bor}
use lib.ListN.{length, get_or, take}
use lib.Ieee.{Float}
use Rattle.std.specs.Prelude.{Result, Ok, Err}
use Rattle.std.specs.List.{All}
use Rattle.std.proofs.Common.{below_more}
use Rattle.std.proofs.lemmas.List.{length-map, get_or-map, map-append, take_more, take_all}
use Rattle.std.proofs.lemmas.List.Elements.{All-append}
use Rattle.rules.specs.Sums.{any, list}
use Rattle.rules.specs.Refusals.{answer_by, number_of, value_unfit}
use Rattle.rules.specs.Axis.{make_axis, extent_of}
use Rattle.rules.specs.Knots.{some_thin, thin_over, axis_over, knot}
use Rattle.rules.specs.declared.Axis.{Axis}
use Rattle.rules.specs.declared.refusal.Refusal.{Refusal}
use Rattle.rules.specs.declared.refusal.Refusal.TheVariants.{Thin}
use Rattle.laws.proofs.Any.{any_at, none}
use Rattle.laws.proofs.Lists.{list_ext}
use Rattle.points.specs.Cells.{cells, Taken}
use Rattle.points.specs.declared.Placed.{Placed}
use Rattle.points.proofs.Axes.{Asked, thin, over as made_over}
use Rattle.knots_tests.specs.Tests.{count, point_tests, over_tests}
use Rattle.knots_tests.proofs.Shape.{Shaped}
use Rattle.knots_tests.proofs.Filed.{files_refusal, files_answer}
use Rattle.knots_over.specs.Over.{index_all}
use Rattle.knots_over.proofs.Tests.{refused_early, refused_thin, not_refused, shape_fits, values_fit}

-- points on the axis over them
abbrev pub over : ℕ → Bor (List Float) → Placed
over order xs = record { points = xs; axis = axis_over xs.now order }

abbrev pub points : List (Bor (List Float)) → List (List Float)
points axes = map (λ xs. xs.now) axes

-- on those axes the cells are the knots
cells_over : (order i : ℕ) (axes : List (Bor (List Float))) → cells (map (over order) axes) i ≡ map (λ xs. knot xs order i) (points axes)
unfolding knot
cells_over order i [] = refl
cells_over order i (xs ∷ axes) = ap (λ (l : List ℕ). knot xs.now order i ∷ l) (cells_over order i axes)

alone : (P : Placed → Type 0) (p : Placed) → P p → All P (p ∷ [])
alone P p h zero d l = h
alone P p h (suc k) d l = absurd (omega arith)

-- the axes over the points of the first i are made; none of them is thin, and each takes its n points
pub record Made (n order : ℕ) (axes : List (Bor (List Float))) (i : ℕ) (placed : List Placed) : Type 0 where
  pub made : placed ≡ map (over order) (take i axes)
  pub thick : (k : ℕ) → k < i → thin_over (get_or (points axes) k []) ≡ false
  pub taken : All (Taken n order) placed

-- the answer is that of the tests that need no axis
module _ (most top : ℕ) (top_is : top ≡ most) (index_at : ℕ → List ℕ → ℕ) (axes : List (Bor (List Float))) (order : ℕ) (before : List ℕ)
    (answer : Result (Unit {0}) Refusal) (is : answer ≡ answer_by (point_tests top order (points axes) (length before)) tt) where
  written : List ℕ
  written = list (λ i. index_at order (map (λ xs. knot xs order i) (points axes))) (count (points axes))

  tested : answer ≡ answer_by (point_tests most order (points axes) (length before)) tt
  tested = is ∙ rw top_is

  pub files_early : (r : Refusal) → answer ≡ Err r
      → record { value : number_of r ≡ (index_all most index_at (points axes) order before).number; indices_after : before ≡ (index_all most index_at (points axes) order before).indices }
  unfolding index_all written
  files_early r e =
      files_refusal (over_tests most order (points axes) (length before)) written before r
      (refused_early most order (points axes) (length before) r (sym tested ∙ e))

  module _ (passed : answer ≡ Ok tt) (few : most ≤ 32) (some : 0 < length axes) where
    passes : answer_by {A = Unit {0}} (point_tests most order (points axes) (length before)) tt ≡ Ok tt
    passes = sym tested ∙ passed

    fit : Shaped most order (length before) (points axes)
    fit = shape_fits most order (points axes) (length before) passes (rw length-map some)

    pub order_few : order ≤ most
    order_few = fit.few

    -- the axis at place i
    module _ (i : ℕ) (d : Bor (List Float)) (here : i < length axes) (m : Result Axis Refusal)
        (asked_for : m ≡ make_axis (extent_of (get_or axes i d).now).low (extent_of (get_or axes i d).now).high order) where
      here-too : i < length (points axes)
      here-too = rw length-map here

      this : get_or (points axes) i [] ≡ (get_or axes i d).now
      this = get_or-map (λ xs. xs.now) axes i d [] here

      asked : Asked (get_or axes i d).now (length before) order m
      asked =
          record {
            all = sym (ap length this) ∙ fit.as_many i here-too;
            some = fit.some;
            fit = sym (ap (any value_unfit) this) ∙ values_fit most order (points axes) (length before) passes i here-too;
            few = omega (arith, fit.few);
            is = asked_for;
          }

      pub files_thin : (r : Refusal) → m ≡ Err r
          → record { value : number_of r ≡ (index_all most index_at (points axes) order before).number; indices_after : before ≡ (index_all most index_at (points axes) order before).indices }
      unfolding index_all written some_thin
      files_thin r e =
          let t = thin asked r e in
          rw t.1
          (files_refusal (over_tests most order (points axes) (length before)) written before Thin
          (refused_thin most order (points axes) (length before) passes (any_at thin_over [] (points axes) i here-too (ap thin_over this ∙ t.0))))

      pub one_more : (a : Axis) → m ≡ Ok a → (placed after : List Placed) → after ≡ placed ++ (record { points = get_or axes i d; axis = a } ∷ [])
          → Made (length before) order axes i placed → Made (length before) order axes (i + 1) after
      one_more a e placed after pushed so_far =
          let o = made_over asked a e in
          record {
            made = pushed ∙ rw (so_far.made, o.made, take_more axes i d here, map-append);
            thick = below_more _ _ so_far.thick (ap thin_over this ∙ o.thick);
            taken = subst (λ (l : List Placed). All (Taken (length before) order) l) (sym pushed) (All-append (Taken (length before) order) placed _ so_far.taken (alone (Taken (length before) order) (record { points = get_or axes i d; axis = a }) o.takes));
          }

    -- all axes
    module _ (i : ℕ) (all : length axes ≤ i) (placed : List Placed) (made : Made (length before) order axes i placed) where
      all_placed : placed ≡ map (over order) axes
      all_placed = made.made ∙ rw (take_all i axes all)

      length-over : length (points axes) ≡ length axes
      length-over = length-map axes (λ xs. xs.now)

      pub files_all : (after : List ℕ) → after ≡ list (λ i. index_at order (cells placed i)) (length before)
          → record { value : 0 ≡ (index_all most index_at (points axes) order before).number; indices_after : after ≡ (index_all most index_at (points axes) order before).indices }
      unfolding index_all written some_thin
      files_all after w =
          files_answer (over_tests most order (points axes) (length before)) written before after
          (not_refused most order (points axes) (length before) passes (none thin_over [] (points axes) (λ k h. made.thick k (omega (arith, all, length-over, h)))))
          (w ∙ rw (all_placed, fit.counted) (list_ext _ _ (length before) (λ k h. ap (index_at order) (cells_over order k axes))))
