-- The twelve named cases of document 01, G3 in edition 2 of document 02, and grids cut across x and z first, by one statement over a list of them: antt computes what the rules say of each and compares.
-- Assumes nothing.
use Prim.Native.Nat.{ℕ, ◌-◌, ◌^◌}
use mathlib.Core.Bool.{Bool, true, false, ◌&&◌}
use mathlib.Core.List.{List, [], ◌∷◌}
use lib.ListN.{length, replicate}
use lib.Dec.{T, eqb}
use Rattle.rules.specs.Sums.{pick, any, total, top, list}
use Rattle.rules.specs.Grid.{cells, coords, whole, inside, edge, side, before, after, weight, line}
use Rattle.rules.specs.Refusals.{read_coded, read_cell2, read_cell3, encode_tests, decode_tests, grid_tests, slice_by}
use Rattle.rules.specs.Curve.{encode, decode, seek_digit, undo, digit_table, next_table, plane, octant_table, space, index_of, coordinate_of, encode2, encode3, decode2, decode3}
use Rattle.rules.specs.Halving.{Halved, lo_of, hi_of, whole_up, lo_up_of, edition_of, reach, settle, cut_of, cut_at, uncut, next_axis, unless_flat, fill, splits_of, turn, walk, id_of, ids_of, Halving, halving2, halving3, halve}

-- a cell of 2D or 3D at an order, with its index; a grid's edition, sides, first axis, depth and weights, with its splits and ids; and
-- one that is refused, with its number
pub data Case : Type 0 where
  on2 : (order x y index : ℕ) → Case
  on3 : (order x y z index : ℕ) → Case
  grid2 : (edition width height first depth : ℕ) (weights splits ids : List ℕ) → Case
  grid3 : (edition width height layers first depth : ℕ) (weights splits ids : List ℕ) → Case
  refused2 : (edition width height first depth number : ℕ) → Case
  refused3 : (edition width height layers first depth number : ℕ) → Case

abbrev pub same : List ℕ → List ℕ → Bool
same [] [] = true
same [] (y ∷ ys) = false
same (x ∷ xs) [] = false
same (x ∷ xs) (y ∷ ys) = eqb x y && same xs ys

-- the call's number is 0, and the values are these
abbrev pub answers : ℕ → List ℕ → List ℕ → Bool
answers number values wanted = eqb number 0 && same values wanted

abbrev pub halves : Halving → List ℕ → List ℕ → List ℕ → Bool
halves h ws splits ids =
    let r : Halved = halve h ws (replicate (2 ^ h.depth - 1) 0) (replicate (length ws) 0) in
    answers r.number r.splits splits && same r.ids ids

-- the cell has the index, and the index the cell; slices of the right lengths are filled with the splits and the ids
abbrev pub holds : Case → Bool
holds (on2 order x y i) =
    answers (read_coded (encode2 x y order)).number ((read_coded (encode2 x y order)).value ∷ []) (i ∷ [])
    && answers (read_cell2 (decode2 i order)).number (read_cell2 (decode2 i order)).value (x ∷ y ∷ [])
holds (on3 order x y z i) =
    answers (read_coded (encode3 x y z order)).number ((read_coded (encode3 x y z order)).value ∷ []) (i ∷ [])
    && answers (read_cell3 (decode3 i order)).number (read_cell3 (decode3 i order)).value (x ∷ y ∷ z ∷ [])
holds (grid2 e w h f k ws splits ids) = halves (halving2 (record { edition = e; width = w; height = h; first = f; depth = k })) ws splits ids
holds (grid3 e w h l f k ws splits ids) = halves (halving3 (record { edition = e; width = w; height = h; layers = l; first = f; depth = k })) ws splits ids
holds (refused2 e w h f k n) = eqb (halve (halving2 (record { edition = e; width = w; height = h; first = f; depth = k })) [] [] []).number n
holds (refused3 e w h l f k n) = eqb (halve (halving3 (record { edition = e; width = w; height = h; layers = l; first = f; depth = k })) [] [] []).number n

abbrev pub all : List Case → Bool
all [] = true
all (c ∷ cs) = holds c && all cs

-- A1 to A7, orders 31 and 32, B1 and B2, G1 to G3; G3 in edition 2: every cell is a part of its own; G2 across x first; eight cells across z, x, y; and
-- the order of 13, 14 and 9
abbrev pub named : List Case
named =
    on2 0 0 0 0
    ∷ on2 1 1 0 3
    ∷ on2 2 1 0 1
    ∷ on2 2 3 3 10
    ∷ on2 7 0 127 5461
    ∷ on2 7 127 127 10922
    ∷ on2 30 (2 ^ 30 - 1) 0 1152921504606846975
    ∷ on2 31 (2 ^ 30) 0 4227378850225105578
    ∷ on2 32 (2 ^ 32 - 1) 0 18446744073709551615
    ∷ on2 32 (2 ^ 32 - 1) (2 ^ 32 - 1) 12297829382473034410
    ∷ on3 1 1 1 1 5
    ∷ on3 2 3 0 0 63
    ∷ grid2 1 4 4 1 2 (replicate 16 1) (2 ∷ 2 ∷ 2 ∷ []) (0 ∷ 0 ∷ 1 ∷ 1 ∷ 0 ∷ 0 ∷ 1 ∷ 1 ∷ 2 ∷ 2 ∷ 3 ∷ 3 ∷ 2 ∷ 2 ∷ 3 ∷ 3 ∷ [])
    ∷ grid2 1 4 1 1 3 (10 ∷ 20 ∷ 30 ∷ 40 ∷ []) (0 ∷ 0 ∷ 2 ∷ uncut ∷ uncut ∷ 0 ∷ 0 ∷ []) (5 ∷ 5 ∷ 7 ∷ 7 ∷ [])
    ∷ grid2 1 2 2 1 2 (replicate 4 1) (1 ∷ 0 ∷ 0 ∷ []) (1 ∷ 1 ∷ 3 ∷ 3 ∷ [])
    ∷ grid2 2 2 2 1 2 (replicate 4 1) (1 ∷ 1 ∷ 1 ∷ []) (0 ∷ 1 ∷ 2 ∷ 3 ∷ [])
    ∷ grid2 1 4 1 0 3 (10 ∷ 20 ∷ 30 ∷ 40 ∷ []) (2 ∷ 0 ∷ 0 ∷ 0 ∷ 1 ∷ 2 ∷ 3 ∷ []) (2 ∷ 3 ∷ 6 ∷ 7 ∷ [])
    ∷ grid3 2 2 2 2 2 3 (replicate 8 1) (replicate 7 1) (0 ∷ 2 ∷ 1 ∷ 3 ∷ 4 ∷ 6 ∷ 5 ∷ 7 ∷ [])
    ∷ refused2 3 0 2 2 2 13
    ∷ refused2 1 0 2 2 2 14
    ∷ refused3 2 0 2 2 3 3 14
    ∷ refused3 2 0 2 2 2 3 9
    ∷ []

pub named_cases : T (all named)
unfolding pick any total top list cells coords whole inside edge side before after weight line encode_tests decode_tests grid_tests slice_by encode decode seek_digit undo digit_table next_table plane octant_table space index_of coordinate_of encode2 encode3 decode2 decode3 lo_of hi_of whole_up lo_up_of edition_of reach settle cut_of cut_at next_axis unless_flat fill splits_of turn walk id_of ids_of halve
named_cases = tt
