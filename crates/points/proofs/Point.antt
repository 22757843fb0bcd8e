-- A point that the code reads: the axis that takes it accepts it, and gives its cell. Assumes nothing.
use mathlib.Core.Path.{◌≡◌, refl}
use Prim.Native.Nat.{ℕ, zero, suc, ◌<◌}
use native.Mathlib.Omega.{arith}
use mathlib.Core.List.{List, [], ◌∷◌}
use lib.ListN.{length, get_or}
use lib.Ieee.{Float, nan}
use Rattle.rules.specs.Refusals.{first_of, nought, cell_tests}
use Rattle.rules.specs.Axis.{made_up, low_of, high_of, cell_on}
use Rattle.rules.specs.declared.Axis.{Axis}
use Rattle.points.specs.Takes.{cell_at, Takes}

-- within a list the default does not show
default : (xs : List Float) (i : ℕ) (d d' : Float) → i < length xs → get_or xs i d ≡ get_or xs i d'
default [] i d d' h = absurd (omega arith)
default (x ∷ xs) zero d d' h = refl
default (x ∷ xs) (suc i) d d' h = default xs i d d' (omega arith)

module _ (xs : List Float) (n order : ℕ) (a : Axis) (takes : Takes xs n order a) (i : ℕ) (here : i < n) where
  pub point_read : i < length xs
  point_read = let e = takes.all in omega arith

  pub point_accepted : first_of (cell_tests (made_up a) (low_of a) (high_of a) (get_or xs i nan)) ≡ 0
  point_accepted = rw (default xs i nan nought point_read) (takes.accepts i here)

  pub point_cell : cell_on a (get_or xs i nan) ≡ cell_at a xs i
  point_cell = rw (default xs i nan nought point_read)
