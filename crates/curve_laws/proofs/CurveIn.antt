-- What holds of the plane's machine and of that of space alike, and the cell of an index as a list. Assumes nothing.
use Prim.Native.Nat.{ℕ, zero, suc, ◌-◌, ◌≤◌, ◌<◌}
use mathlib.Core.Path.{◌≡◌, refl, sym, ap, ◌∙◌, subst}
use mathlib.Core.List.{List}
use native.Mathlib.Omega.{arith}
use lib.Dec.{T}
use lib.ListN.{length, get_or}
use lib.Seq.{ext_get_or}
use Rattle.rules.specs.Curve.{Machine, coordinate_of}
use Rattle.curve_laws.proofs.Permutes.{permutes, plane_permutes, plane_start, space_permutes, space_start}
use Rattle.curve_laws.specs.Undoes.{curve_in, cell_of}

pub rows : (d : ℕ) → 2 ≤ d → d ≤ 3 → T (permutes (curve_in d))
rows zero p q = absurd (omega arith)
rows (suc zero) p q = absurd (omega arith)
rows (suc (suc zero)) p q = plane_permutes
rows (suc (suc (suc zero))) p q = space_permutes
rows (suc (suc (suc (suc d)))) p q = absurd (omega arith)

pub starts : (d : ℕ) → 2 ≤ d → d ≤ 3 → 0 < (curve_in d).states
starts zero p q = absurd (omega arith)
starts (suc zero) p q = absurd (omega arith)
starts (suc (suc zero)) p q = plane_start
starts (suc (suc (suc zero))) p q = space_start
starts (suc (suc (suc (suc d)))) p q = absurd (omega arith)

-- the cell has a coordinate for each axis
pub length_cell : {d : ℕ} (M : Machine d) (order index n : ℕ) → length (cell_of M order index n) ≡ n
unfolding cell_of
length_cell M order index zero = refl
length_cell M order index (suc n) = ap (λ (k : ℕ). suc k) (length_cell M order index n)

pub at_cell : {d : ℕ} (M : Machine d) (order index n i : ℕ) → i < n → get_or (cell_of M order index n) i 0 ≡ coordinate_of M order index (n - 1 - i)
unfolding cell_of
at_cell M order index zero i h = absurd (omega arith)
at_cell M order index (suc n) zero h = let e : n ≡ suc n - 1 - 0 = omega arith in ap (λ (k : ℕ). coordinate_of M order index k) e
at_cell M order index (suc n) (suc i) h =
    let e : n - 1 - i ≡ suc n - 1 - suc i = omega arith in
    at_cell M order index n i (omega arith) ∙ ap (λ (k : ℕ). coordinate_of M order index k) e

-- and is known by them
pub cell_is : {d : ℕ} (M : Machine d) (order index n : ℕ) (c : List ℕ) → length c ≡ n
    → ((i : ℕ) → i < n → get_or c i 0 ≡ coordinate_of M order index (n - 1 - i)) → c ≡ cell_of M order index n
cell_is M order index n c l h =
    ext_get_or 0 c (cell_of M order index n) (l ∙ sym (length_cell M order index n)) (λ i p.
    let q : i < n = subst (λ (k : ℕ). i < k) l p in
    h i q ∙ sym (at_cell M order index n i q))
