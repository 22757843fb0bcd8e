-- Index all points, over boxes along the axes. Assumes nothing.
use Rattle.std.specs.Prelude.{ℕ, Bool, List, [], ◌∷◌, get_or, length, Float}
use Rattle.rules.specs.Sums.{any, list}
use Rattle.rules.specs.Refusals.{Test, first_of, top2, top3, nought, value_unfit, axis_thin, index_tests, slice_by}
use Rattle.rules.specs.Curve.{plane, space, cell2, cell3, index_of}
use Rattle.rules.specs.Axis.{axis_of, cell_on, extent_of}
use Rattle.rules.specs.declared.Axis.{Axis}

-- whether some coordinate on some axis is unfit, and whether some axis is thin: a list of coordinates for each axis
unfoldable pub some_unfit : List (List Float) → Bool
some_unfit axes = any (any value_unfit) axes

abbrev pub thin_over : List Float → Bool
thin_over xs = axis_thin (extent_of xs).low (extent_of xs).high

unfoldable pub some_thin : List (List Float) → Bool
some_thin axes = any thin_over axes

-- the axis from the lowest to the highest of the points
unfoldable pub axis_over : List Float → ℕ → Axis
axis_over xs order = axis_of (extent_of xs).low (extent_of xs).high order

-- the cell of point i on that axis
unfoldable pub knot : List Float → ℕ → ℕ → ℕ
knot xs order i = cell_on (axis_over xs order) (get_or xs i nought)

-- a call's number, and what it leaves in the index slice
pub record Filed : Type 0 where
  pub number : ℕ
  pub indices : List ℕ

abbrev pub filed_by : ℕ → List ℕ → List ℕ → Filed
filed_by n written before = record { number = n; indices = slice_by n written before }

-- of the coordinates, the order, and what the index slice holds
abbrev pub index2_tests : List Float → List Float → ℕ → List ℕ → List Test
index2_tests xs ys order before =
    index_tests top2 order (length xs) (length ys ∷ length before ∷ []) (some_unfit (xs ∷ ys ∷ [])) (some_thin (xs ∷ ys ∷ []))

unfoldable pub index_all2 : List Float → List Float → ℕ → List ℕ → Filed
index_all2 xs ys order before =
    filed_by
    (first_of (index2_tests xs ys order before))
    (list (λ i. index_of plane order (cell2 (knot xs order i) (knot ys order i))) (length xs))
    before

abbrev pub index3_tests : List Float → List Float → List Float → ℕ → List ℕ → List Test
index3_tests xs ys zs order before =
    index_tests top3 order (length xs) (length ys ∷ length zs ∷ length before ∷ []) (some_unfit (xs ∷ ys ∷ zs ∷ [])) (some_thin (xs ∷ ys ∷ zs ∷ []))

unfoldable pub index_all3 : List Float → List Float → List Float → ℕ → List ℕ → Filed
index_all3 xs ys zs order before =
    filed_by
    (first_of (index3_tests xs ys zs order before))
    (list (λ i. index_of space order (cell3 (knot xs order i) (knot ys order i) (knot zs order i))) (length xs))
    before
