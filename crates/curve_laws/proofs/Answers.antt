-- The number and the values that document 01 reads off each answer: the number of the first test that refuses, and then every value is 0; else 0,
-- and the index or the cell. Assumes nothing.
use Prim.Native.Nat.{ℕ}
use mathlib.Core.Path.{◌≡◌}
use mathlib.Core.List.{[], ◌∷◌}
use Rattle.rules.specs.Refusals.{first_of, top2, top3, encode_tests, decode_tests, read_coded, read_cell2, read_cell3}
use Rattle.rules.specs.Curve.{plane, space, cell2, cell3, index_of, coordinate_of, encode2, encode3, decode2, decode3}
use Rattle.laws.proofs.Readings.{value_by, reading_of}

pub encode2_reads : (x y order : ℕ)
    → read_coded (encode2 x y order) ≡ value_by (first_of (encode_tests top2 order (x ∷ y ∷ []))) (index_of plane order (cell2 x y)) 0
unfolding encode2
encode2_reads x y order = reading_of (encode_tests top2 order (x ∷ y ∷ [])) (index_of plane order (cell2 x y)) 0

pub encode3_reads : (x y z order : ℕ)
    → read_coded (encode3 x y z order) ≡ value_by (first_of (encode_tests top3 order (x ∷ y ∷ z ∷ []))) (index_of space order (cell3 x y z)) 0
unfolding encode3
encode3_reads x y z order = reading_of (encode_tests top3 order (x ∷ y ∷ z ∷ [])) (index_of space order (cell3 x y z)) 0

pub decode2_reads : (index order : ℕ)
    → read_cell2 (decode2 index order)
    ≡ value_by (first_of (decode_tests 2 top2 order index)) (coordinate_of plane order index 1 ∷ coordinate_of plane order index 0 ∷ []) (0 ∷ 0 ∷ [])
unfolding decode2
decode2_reads index order =
    reading_of (decode_tests 2 top2 order index) (coordinate_of plane order index 1 ∷ coordinate_of plane order index 0 ∷ []) (0 ∷ 0 ∷ [])

pub decode3_reads : (index order : ℕ)
    → read_cell3 (decode3 index order)
    ≡ value_by (first_of (decode_tests 3 top3 order index))
    (coordinate_of space order index 2 ∷ coordinate_of space order index 1 ∷ coordinate_of space order index 0 ∷ [])
    (0 ∷ 0 ∷ 0 ∷ [])
unfolding decode3
decode3_reads index order =
    reading_of (decode_tests 3 top3 order index)
    (coordinate_of space order index 2 ∷ coordinate_of space order index 1 ∷ coordinate_of space order index 0 ∷ [])
    (0 ∷ 0 ∷ 0 ∷ [])
