-- Index all points on axes that are given, in any number of dimensions: points and their axis for each coordinate, from x on; of the curve, its
-- highest order and its index of a cell. Assumes nothing.
use Rattle.std.specs.Prelude.{ℕ, List, map, length, get_or}
use Rattle.rules.specs.Sums.{list}
use Rattle.rules.specs.Refusals.{Test, first_of, nought}
use Rattle.rules.specs.Axis.{cell_on}
use Rattle.rules.specs.Knots.{Filed, filed_by}
use Rattle.knots_given.specs.Given.{Given, on_tests}
use Rattle.knots_tests.specs.Tests.{count, lengths}

abbrev pub given_tests : ℕ → ℕ → List Given → ℕ → List Test
given_tests most order axes m = on_tests most order (count (map (λ g. g.points) axes)) (lengths (map (λ g. g.points) axes) m) axes

unfoldable pub index_given : ℕ → (ℕ → List ℕ → ℕ) → List Given → ℕ → List ℕ → Filed
index_given most index_at axes order before =
    filed_by
    (first_of (given_tests most order axes (length before)))
    (list (λ i. index_at order (map (λ g. cell_on g.axis (get_or g.points i nought)) axes)) (count (map (λ g. g.points) axes)))
    before
