-- The cell of a value on an axis that is made first is refused exactly by the axis's tests, then the value's: an axis that is made is not made up, and
-- has the low and high that it was made of. Assumes nothing.
use Prim.Native.Nat.{ℕ}
use mathlib.Core.Path.{◌≡◌, refl, ap, ◌∙◌}
use mathlib.Core.Bool.{Bool, true, false}
use mathlib.Core.List.{List, [], ◌∷◌, ◌++◌}
use lib.Ieee.{Float}
use Rattle.std.specs.Prelude.{Ok, Err, cond}
use Rattle.rules.specs.Refusals.{Test, test, first_of, value_unfit, outside, axis_tests, cell_tests, answer_by, read_cell}
use Rattle.rules.specs.Demands.{NonePasses}
use Rattle.rules.specs.Axis.{axis_of, make_axis, made_up, cell_on, cell_of}
use Rattle.rules.specs.declared.Axis.{Axis}
use Rattle.rules.specs.declared.refusal.Refusal.TheVariants.{Value, Outside}
use Rattle.laws.proofs.Readings.{value_by, reading_of, answered}
use Rattle.laws.proofs.Exactly.{exactly, Refuses, refuses}
use Rattle.axis_laws.proofs.MadeUp.{not_made_up}
use Rattle.axis_laws.proofs.AxisAccepts.{ends_of}
use Rattle.axis_out.specs.Cells.{cell_from, cell_between, between_tests}

-- the axis's tests, then those of the value on it
behind : (ts us : List Test) (a : Axis) (value : Float) (c : ℕ) → (NonePasses ts → cell_of a value ≡ answer_by us c)
    → cell_from (answer_by ts a) value ≡ answer_by (ts ++ us) c
unfolding cell_from
behind [] us a value c h = h tt
behind (t ∷ ts) us a value c h = go t.passes h (behind ts us a value c)
  where
    go : (b : Bool) → ((b ≡ false) × NonePasses ts → cell_of a value ≡ answer_by us c)
        → ((NonePasses ts → cell_of a value ≡ answer_by us c) → cell_from (answer_by ts a) value ≡ answer_by (ts ++ us) c)
        → cell_from (cond b (Err t.refusal) (answer_by ts a)) value ≡ cond b (Err t.refusal) (answer_by (ts ++ us) c)
    go true h f = refl
    go false h f = f (λ n. h (refl, n))

module _ (low high : Float) (order : ℕ) (value : Float) where
  -- the value's own tests
  abbrev later : List Test
  later = test (value_unfit value) Value ∷ test (outside low high value) Outside ∷ []

  abbrev axis : Axis
  axis = axis_of low high order

  not_up : make_axis low high order ≡ Ok axis → made_up axis ≡ false
  not_up e = let ends = ends_of low high order in not_made_up axis (rw (ends.0, ends.1, ends.2) e)

  on_made : make_axis low high order ≡ Ok axis → cell_of axis value ≡ answer_by later (cell_on axis value)
  unfolding cell_of cell_tests
  on_made e = let ends = ends_of low high order in rw (not_up e, ends.0, ends.1) refl

  made : NonePasses (axis_tests low high order) → make_axis low high order ≡ Ok axis
  unfolding make_axis
  made n = answered (axis_tests low high order) axis ((exactly (axis_tests low high order)).none n)

  pub between_answers : cell_between low high order value ≡ answer_by (between_tests low high order value) (cell_on axis value)
  unfolding between_tests make_axis
  between_answers = behind (axis_tests low high order) later axis value (cell_on axis value) (λ n. on_made (made n))

  pub between : read_cell (cell_between low high order value) ≡ value_by (first_of (between_tests low high order value)) (cell_on axis value) 0
  between = ap read_cell between_answers ∙ reading_of (between_tests low high order value) (cell_on axis value) 0

  pub between_refuses : Refuses (between_tests low high order value) (read_cell (cell_between low high order value)) 0
  between_refuses = rw between (refuses _ _ _ 0 (exactly (between_tests low high order value)))
