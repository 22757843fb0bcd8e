-- The bounds of demand 3 are not idle: grids in which a part comes near them, by computing. Assumes nothing.
use Prim.Native.Nat.{ℕ, ◌+◌, ◌*◌, ◌^◌}
use mathlib.Core.List.{List, [], ◌∷◌}
use lib.ListN.{replicate}
use lib.Dec.{T, leb}
use Rattle.rules.specs.Sums.{pick, total, top, list}
use Rattle.rules.specs.Grid.{cells, coords, whole, inside, edge, side, before, after, all_weight, weight, line, heaviest, heaviest_line}
use Rattle.rules.specs.Halving.{lo_of, hi_of, edition_of, reach, settle, cut_of, cut_at, next_axis, unless_flat, fill, splits_of, turn, walk, id_of, ids_of, halving2, of2, ids_by}
use Rattle.rules.specs.Demands.{part_weight}

-- the weight of an id of a grid, the weight of all its cells and its heaviest line
abbrev w : ℕ → ℕ → ℕ → List ℕ → ℕ → ℕ
w width height k ws i = part_weight (width ∷ height ∷ []) ws (ids_by (halving2 (of2 width height k)) ws) i

-- 2 by 2, weights 0 1 1 0, depth 6: part 63 has all the weight, and its side of the upper bound is over 97 hundredths of the other
abbrev skew : List ℕ
skew = 0 ∷ 1 ∷ 1 ∷ 0 ∷ []

pub near_upper : T (leb (97 * (99 * 101 ^ 6 * all_weight (2 ∷ 2 ∷ []) skew + 200 ^ 7 * heaviest_line (2 ∷ 2 ∷ []) skew)) (100 * (99 * 200 ^ 6 * w 2 2 6 skew 63)))
unfolding pick total top list cells coords whole inside edge side before after all_weight weight line heaviest heaviest_line lo_of hi_of edition_of reach settle cut_of cut_at next_axis unless_flat fill splits_of turn walk id_of ids_of part_weight
near_upper = tt

-- 17 by 17, all weights 1, depth 1: part 0 has 136 of 289, and its side of the lower bound is over 84 hundredths of the other
abbrev even : List ℕ
even = replicate 289 1

pub near_lower : T (leb (84 * (101 * 200 ^ 1 * w 17 17 1 even 0 + 200 ^ 2 * heaviest_line (17 ∷ 17 ∷ []) even)) (100 * (101 * 99 ^ 1 * all_weight (17 ∷ 17 ∷ []) even)))
unfolding pick total top list cells coords whole inside edge side before after all_weight weight line heaviest heaviest_line lo_of hi_of edition_of reach settle cut_of cut_at next_axis unless_flat fill splits_of turn walk id_of ids_of part_weight
near_lower = tt
