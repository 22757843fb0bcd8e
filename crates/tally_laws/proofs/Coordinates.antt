-- The coordinates of a cell, axis by axis: each is what its side leaves of the rest of the cell's number.
use Prim.Native.Nat.{ℕ, zero, suc, ◌/◌, ◌%◌, ◌<◌}
use native.Mathlib.Omega.{arith}
use mathlib.Core.Path.{◌≡◌, refl, ap, ◌∙◌}
use mathlib.Core.List.{List, [], ◌∷◌}
use lib.ListN.{length}
use Rattle.rules.specs.Grid.{cells, coords, on, whole, edge, side}
use Rattle.halving_laws.proofs.Blocks.{whole_length, inside_whole, inside_edge}
use Rattle.tally_laws.specs.Weighed.{Sided}
use Rattle.tally_laws.specs.Added.{rest_of}

rest_on : (s : ℕ) (ss : List ℕ) (c a : ℕ) → rest_of (s ∷ ss) c (suc a) ≡ rest_of ss (c / s) a
unfolding rest_of
rest_on s ss c zero = refl
rest_on s ss c (suc a) = ap (λ (n : ℕ). n / on ss a) (rest_on s ss c a)

-- the coordinate on an axis is what the side leaves of the rest
pub rest_mod : (sides : List ℕ) (c a : ℕ) → a < length sides → rest_of sides c a % on sides a ≡ on (coords sides c) a
unfolding rest_of coords
rest_mod [] c a h = absurd (omega arith)
rest_mod (s ∷ ss) c zero h = refl
rest_mod (s ∷ ss) c (suc a) h = ap (λ (n : ℕ). n % on ss a) (rest_on s ss c a) ∙ rest_mod ss (c / s) a (omega arith)

pub edge_whole : (sides : List ℕ) (a : ℕ) → edge a (whole sides) ≡ 0
unfolding edge whole
edge_whole [] a = refl
edge_whole (s ∷ ss) zero = refl
edge_whole (s ∷ ss) (suc a) = edge_whole ss a

pub side_whole : (sides : List ℕ) (a : ℕ) → side a (whole sides) ≡ on sides a
unfolding side whole
side_whole [] a = refl
side_whole (s ∷ ss) zero = omega arith
side_whole (s ∷ ss) (suc a) = side_whole ss a

-- a cell's coordinate is below the side
pub on_below : (sides : List ℕ) (c a : ℕ) → c < cells sides → a < length sides → on (coords sides c) a < on sides a
on_below sides c a h l =
    let e = (inside_edge a (whole sides) (coords sides c) (rw (whole_length sides) l) (inside_whole sides c h)).1 in
    omega (arith, e, edge_whole sides a, side_whole sides a)

-- and below 1024
pub on_small : {sides : List ℕ} → Sided sides → (c : ℕ) → c < cells sides → (a : ℕ) → a < length sides → on (coords sides c) a < 1024
on_small {sides} g c h a l = omega (arith, on_below sides c a h l, (g.sides_fit a l).1)
