-- The decoders' tables, and the cells that decoders answer. Assumes nothing.
use Rattle.std.specs.Prelude.{ℕ, zero, suc, ◌+◌, ◌*◌, ◌/◌, ◌%◌, ◌^◌, ◌<◌, ◌≡◌, List, [], ◌∷◌, get_or, length}
use Rattle.rules.specs.Curve.{Machine, undo, coordinate_of, plane, space}

-- at 2^d * state + digit: 2^d * (next state) + quadrant
unfoldable pub undo_entry : {d : ℕ} → Machine d → ℕ → ℕ
undo_entry {d} M i = let q : ℕ = undo M (i / 2 ^ d) (i % 2 ^ d) in 2 ^ d * M.next (i / 2 ^ d) q + q

-- a table of the rows' inverses of all states
pub record Undoes {d : ℕ} (M : Machine d) (table : List ℕ) : Type 0 where
  pub entries : length table ≡ M.states * 2 ^ d
  pub at : (i : ℕ) → i < M.states * 2 ^ d → get_or table i 0 ≡ undo_entry M i

-- the curve in d dimensions: the plane's in 2, that of space in 3; there is no other
abbrev pub curve_in : (d : ℕ) → Machine d
curve_in zero = record { states = 0; digit = λ s q. q; next = λ s q. s }
curve_in (suc zero) = record { states = 0; digit = λ s q. q; next = λ s q. s }
curve_in (suc (suc zero)) = plane
curve_in (suc (suc (suc zero))) = space
curve_in (suc (suc (suc (suc d)))) = record { states = 0; digit = λ s q. q; next = λ s q. s }

-- the coordinates of an index on the lowest n axes, from the last of them down: x is the last axis
unfoldable pub cell_of : {d : ℕ} → Machine d → ℕ → ℕ → ℕ → List ℕ
cell_of M order index zero = []
cell_of M order index (suc e) = coordinate_of M order index e ∷ cell_of M order index e
