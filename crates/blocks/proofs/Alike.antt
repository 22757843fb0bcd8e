-- Two halvings that stand for one halving of the rules are one: a grid's third side is 1 where the rules don't know it, and the proofs that
-- it holds are no second grid. Assumes nothing.
use Prim.Native.Nat.{ℕ, zero, suc, ◌≤◌, ◌<◌}
use native.Mathlib.Omega.{arith}
use native.Mathlib.Nat.{ℕ_set}
use native.Mathlib.Bridge.{le_prop}
use mathlib.Core.Path.{◌≡◌, refl, ap, sym, ◌∙◌, path_j}
use mathlib.Core.List.{List, [], ◌∷◌, ◌++◌}
use lib.ListN.{length, take}
use Rattle.std.specs.Prelude.{slice_index}
use Rattle.rules.specs.Grid.{on}
use Rattle.rules.specs.Halving as rule
use Rattle.blocks.specs.Blocks.{sides_of, rule_of}
use Rattle.blocks.specs.declared.grid.Grid.{Grid}
use Rattle.blocks.specs.declared.halving.Halving.{Halving}
use Rattle.blocks.proofs.AsBlocks.{three, axes_are}

-- what a grid's sides fulfil
record Fit (n : ℕ) (s : List ℕ) : Type 0 where
  pub three : length s ≡ 3
  pub axes_fit : (2 ≤ n) × (n ≤ 3)
  pub one_layer : n < 3 → slice_index s 2 ≡ 1

Fit-prop : (n : ℕ) (s : List ℕ) → IsProp (Fit n s)
Fit-prop n s = hlevel (le_prop, ℕ_set)

grid : (n : ℕ) (s : List ℕ) → Fit n s → Grid
grid n s f = record { axes = n; sides = s; three = f.three; axes_fit = f.axes_fit; one_layer = f.one_layer }

grids : (n m : ℕ) (s t : List ℕ) (f : Fit n s) (g : Fit m t) → n ≡ m → s ≡ t → grid n s f ≡ grid m t g
grids n m s t f g p q =
    path_j (λ (t : List ℕ) (q : s ≡ t). (g : Fit m t) → grid n s f ≡ grid m t g)
    (path_j (λ (m : ℕ) (p : n ≡ m). (g : Fit m s) → grid n s f ≡ grid m s g) (λ g. ap (grid n s) (Fit-prop n s f g)) p) q g

fit : (g : Grid) → Fit g.axes g.sides
fit g = record { three = g.three; axes_fit = g.axes_fit; one_layer = g.one_layer }

-- the sides on the axes, and 1 where there is no third
full_on : (n x y z : ℕ) → (2 ≤ n) × (n ≤ 3) → (n < 3 → z ≡ 1) → x ∷ y ∷ z ∷ [] ≡ take 3 (take n (x ∷ y ∷ z ∷ []) ++ (1 ∷ []))
full_on zero x y z f l = absurd (omega arith)
full_on (suc zero) x y z f l = absurd (omega arith)
full_on (suc (suc zero)) x y z f l = rw (l (omega arith))
full_on (suc (suc (suc zero))) x y z f l = refl
full_on (suc (suc (suc (suc n)))) x y z f l = absurd (omega arith)

full : (g : Grid) → g.sides ≡ take 3 (sides_of g ++ (1 ∷ []))
full g =
    three g.sides g.three
    ∙ full_on g.axes _ _ _ g.axes_fit g.one_layer
    ∙ ap (λ (s : List ℕ). take 3 (take g.axes s ++ (1 ∷ []))) (sym (three g.sides g.three))

pub grid_once : (g h : Grid) → sides_of g ≡ sides_of h → g ≡ h
unfolding grid fit
grid_once g h e =
    grids g.axes h.axes g.sides h.sides (fit g) (fit h)
    (sym (axes_are g) ∙ ap length e ∙ axes_are h)
    (full g ∙ ap (λ (s : List ℕ). take 3 (s ++ (1 ∷ []))) e ∙ sym (full h))

pub halving_once : (y z : Halving) → rule_of y ≡ rule_of z → y ≡ z
halving_once y z e =
    let g : y.grid ≡ z.grid = grid_once y.grid z.grid (ap (λ (r : rule.Halving). r.sides) e) in
    λ i. record { edition = (e i).edition; grid = g i; first = (e i).first; depth = (e i).depth }
