-- The code tests three sides: where none is unfit, none of the grid's own is; they make as many cells; and a grid in 2D is tested as its one
-- layer, but that the number of axes is beside the sides.
use Prim.Native.Nat.{ℕ, zero, suc, ◌*◌, ◌≤◌, ◌<◌}
use native.Mathlib.Omega.{arith}
use native.Mathlib.Nat.{mul-one}
use mathlib.Core.Path.{◌≡◌, refl, ap, sym, ◌∙◌}
use mathlib.Core.Bool.{Bool, false}
use mathlib.Core.List.{List, [], ◌∷◌}
use lib.ListN.{length, take}
use Rattle.rules.specs.Sums.{any}
use Rattle.rules.specs.Grid.{cells}
use Rattle.rules.specs.Refusals.{first_of, side_unfit, grid_tests}
use Rattle.laws.proofs.Any.{neither}
use Rattle.blocks.specs.Blocks.{sides_of}
use Rattle.blocks.specs.declared.grid.Grid.{Grid}
use Rattle.blocks.proofs.AsBlocks.{three, cells_are, axes_are}

-- of some for which no test passes
taken_fit : (f : ℕ → Bool) (n : ℕ) (xs : List ℕ) → any f xs ≡ false → any f (take n xs) ≡ false
unfolding any
taken_fit f zero xs e = refl
taken_fit f (suc n) [] e = refl
taken_fit f (suc n) (x ∷ xs) e = let t = neither (f x) (any f xs) e in rw (t.0, taken_fit f n xs t.1)

pub none_unfit : (g : Grid) → any side_unfit g.sides ≡ false → any side_unfit (sides_of g) ≡ false
none_unfit g e = taken_fit side_unfit g.axes g.sides e

cells_of : (x y z : ℕ) → x * (y * z) ≡ cells (x ∷ y ∷ z ∷ [])
unfolding cells
cells_of x y z = ap (λ (n : ℕ). x * (y * n)) (sym (mul-one z))

pub as_many_cells : (g : Grid) → cells (sides_of g) ≡ cells g.sides
as_many_cells g = cells_are g ∙ cells_of _ _ _ ∙ ap cells (sym (three g.sides g.three))

-- a grid in 2D and its one layer are refused alike
pub one_layer : (e n first w h k : ℕ) (ws : List ℕ) (ids splits : ℕ)
    → first_of (grid_tests e n first (w ∷ h ∷ 1 ∷ []) k ws ids splits) ≡ first_of (grid_tests e n first (w ∷ h ∷ []) k ws ids splits)
unfolding grid_tests any cells
one_layer e n first w h k ws ids splits = refl

-- and so are any grid and its three sides
layers_alike : (n e first x y z k : ℕ) (ws : List ℕ) (ids splits : ℕ) → (2 ≤ n) × (n ≤ 3) → (n < 3 → z ≡ 1)
    → first_of (grid_tests e n first (x ∷ y ∷ z ∷ []) k ws ids splits) ≡ first_of (grid_tests e n first (take n (x ∷ y ∷ z ∷ [])) k ws ids splits)
layers_alike zero e first x y z k ws ids splits f l = absurd (omega arith)
layers_alike (suc zero) e first x y z k ws ids splits f l = absurd (omega arith)
layers_alike (suc (suc zero)) e first x y z k ws ids splits f l = rw (l (omega arith)) (one_layer e 2 first x y k ws ids splits)
layers_alike (suc (suc (suc zero))) e first x y z k ws ids splits f l = refl
layers_alike (suc (suc (suc (suc n)))) e first x y z k ws ids splits f l = absurd (omega arith)

pub three_sides : (g : Grid) (e first k : ℕ) (ws : List ℕ) (ids splits : ℕ)
    → first_of (grid_tests e g.axes first g.sides k ws ids splits) ≡ first_of (grid_tests e (length (sides_of g)) first (sides_of g) k ws ids splits)
three_sides g e first k ws ids splits =
    rw (axes_are g)
    (ap (λ (s : List ℕ). first_of (grid_tests e g.axes first s k ws ids splits)) (three g.sides g.three)
    ∙ layers_alike g.axes e first _ _ _ k ws ids splits g.axes_fit g.one_layer
    ∙ ap (λ (s : List ℕ). first_of (grid_tests e g.axes first (take g.axes s) k ws ids splits)) (sym (three g.sides g.three)))
