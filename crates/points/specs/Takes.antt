-- Points on an axis that takes them.
use Rattle.std.specs.Prelude.{ℕ, ◌<◌, ◌^◌, ◌≡◌, List, length, get_or, Float}
use Rattle.rules.specs.Refusals.{nought, first_of, cell_tests}
use Rattle.rules.specs.Axis.{made_up, low_of, high_of, cell_on}
use Rattle.rules.specs.declared.Axis.{Axis}

-- the cell of point i
abbrev pub cell_at : Axis → List Float → ℕ → ℕ
cell_at a xs i = cell_on a (get_or xs i nought)

-- an axis takes n points: it accepts each of them, and the cell of each lies below 2^order
pub record Takes (xs : List Float) (n order : ℕ) (a : Axis) : Type 0 where
  pub all : length xs ≡ n
  pub accepts : (i : ℕ) → i < n → first_of (cell_tests (made_up a) (low_of a) (high_of a) (get_or xs i nought)) ≡ 0
  pub below : (i : ℕ) → i < n → cell_at a xs i < 2 ^ order
