-- The second of two tests of a machine, which both tables pass by computing: in each state the curve enters its block in a corner and leaves it in
-- a corner, and the corner where it leaves a quadrant touches the one where it enters the next. A table that fails it may still have every named case
-- and be one to one. What follows from it at every order is NeighboursOnTheCurve of curve_laws. Assumes nothing.
use Prim.Native.Nat.{ℕ, suc, ◌+◌, ◌-◌, ◌*◌, ◌^◌}
use mathlib.Core.Bool.{Bool, ◌&&◌}
use lib.Dec.{T, eqb}
use Rattle.rules.specs.Sums.{pick, total, all_below}
use Rattle.rules.specs.Curve.{Machine, bit, seek_digit, undo, digit_table, next_table, plane, octant_table, space}
use Rattle.rules.specs.Demands.{apart}

-- how far apart two cells are, summed over d axes
abbrev pub distance : ℕ → (ℕ → ℕ) → (ℕ → ℕ) → ℕ
distance d b c = total (λ e. apart (b e) (c e)) d

-- the state inside the quadrant of digit g
abbrev pub inside : {d : ℕ} → Machine d → ℕ → ℕ → ℕ
inside M s g = M.next s (undo M s g)

-- the digit g has inside its quadrant the same quadrant again
abbrev pub keeps : {d : ℕ} → Machine d → ℕ → ℕ → Bool
keeps M s g = eqb (undo M (inside M s g) g) (undo M s g)

-- with P cells on a quadrant's side, on axis e: the corner of digit h inside the quadrant of digit g
abbrev pub corner : {d : ℕ} → Machine d → ℕ → ℕ → ℕ → ℕ → ℕ → ℕ
corner M P s g h e = bit e (undo M s g) * P + bit e (undo M (inside M s g) h) * (P - 1)

-- from the last corner of digit g to the first of the next digit
abbrev pub gap : {d : ℕ} → Machine d → ℕ → ℕ → ℕ → ℕ
gap {d} M P s g = distance d (corner M P s g (2 ^ d - 1)) (corner M P s (suc g) 0)

-- 4 cells on a side stand for any number of them (`any_side` of curve_laws)
abbrev pub connected : {d : ℕ} → Machine d → ℕ → Bool
connected {d} M s = keeps M s 0 && (keeps M s (2 ^ d - 1) && all_below (2 ^ d - 1) (λ g. eqb (gap M 4 s g) 1))

abbrev pub connects : {d : ℕ} → Machine d → Bool
connects M = all_below M.states (connected M)

pub plane_connects : T (connects plane)
unfolding pick total digit_table next_table plane seek_digit undo
plane_connects = tt

pub space_connects : T (connects space)
unfolding pick total octant_table space seek_digit undo
space_connects = tt
