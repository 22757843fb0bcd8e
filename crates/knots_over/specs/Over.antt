-- Index all points, over boxes along the axes, in any number of dimensions: a list of points for each axis, from x on; of the curve, its highest order
-- and its index of a cell. Assumes nothing.
use Rattle.std.specs.Prelude.{ℕ, List, map, length, Float}
use Rattle.rules.specs.Sums.{list}
use Rattle.rules.specs.Refusals.{first_of}
use Rattle.rules.specs.Knots.{Filed, filed_by, knot}
use Rattle.knots_tests.specs.Tests.{count, over_tests}

unfoldable pub index_all : ℕ → (ℕ → List ℕ → ℕ) → List (List Float) → ℕ → List ℕ → Filed
index_all most index_at axes order before =
    filed_by
    (first_of (over_tests most order axes (length before)))
    (list (λ i. index_at order (map (λ xs. knot xs order i) axes)) (count axes))
    before
