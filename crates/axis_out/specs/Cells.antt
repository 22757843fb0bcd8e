-- The cell of a value on an axis that is made first. Assumes nothing.
use Rattle.std.specs.Prelude.{ℕ, List, [], ◌∷◌, ◌++◌, Float, Result, Ok, Err}
use Rattle.rules.specs.Refusals.{Test, test, value_unfit, outside, axis_tests}
use Rattle.rules.specs.Axis.{make_axis, cell_of}
use Rattle.rules.specs.declared.Axis.{Axis}
use Rattle.rules.specs.declared.refusal.Refusal.{Refusal}
use Rattle.rules.specs.declared.refusal.Refusal.TheVariants.{Value, Outside}

-- the axis's refusal, or what the cell of the value is
unfoldable pub cell_from : Result Axis Refusal → Float → Result ℕ Refusal
cell_from (Ok a) value = cell_of a value
cell_from (Err r) value = Err r

abbrev pub cell_between : Float → Float → ℕ → Float → Result ℕ Refusal
cell_between low high order value = cell_from (make_axis low high order) value

-- its tests in order: the axis's, then the value's; an axis that is made is not made up
unfoldable pub between_tests : Float → Float → ℕ → Float → List Test
between_tests low high order value = axis_tests low high order ++ (test (value_unfit value) Value ∷ test (outside low high value) Outside ∷ [])
