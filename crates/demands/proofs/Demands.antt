-- The three demands, in the order of their text. Assumes nothing.
use Prim.Native.Nat.{ℕ, ◌^◌, ◌<◌}
use mathlib.Core.Path.{◌≡◌}
use mathlib.Core.List.{List, [], ◌∷◌}
use lib.Ieee.{Float}
use Rattle.rules.specs.Refusals.{nought, top2, top3, encode_tests, decode_tests, axis_tests, cell_tests, index_tests, grid_tests, read_coded, read_cell2, read_cell3, read_axis, read_cell}
use Rattle.rules.specs.Curve.{encode2, encode3, decode2, decode3}
use Rattle.rules.specs.Axis.{make_axis, made_up, low_of, high_of, cell_of}
use Rattle.rules.specs.Knots.{index2_tests, index3_tests, index_all2, index_all3}
use Rattle.rules.specs.Halving.{Halving, halving_tests, halve}
use Rattle.knots_given.specs.Given.{questions, asked_of, on_tests, on2_tests, on3_tests, index_on2, index_on3}
use Rattle.rules.specs.Demands.{Exactly, DecodeEncode2, EncodeDecode2, DecodeEncode3, EncodeDecode3, Demand3In2D, Demand3In3D}
use Rattle.rules.specs.declared.Axis.{Axis}
use Rattle.rules.specs.declared.Axis.TheVariants.{Flat}
use Rattle.laws.proofs.Exactly.{exactly, Refuses, answer_refuses, untouched}
use Rattle.curve_laws.proofs.Demand2.{decode_encode_2d, encode_decode_2d, decode_encode_3d, encode_decode_3d}
use Rattle.curve_laws.proofs.EveryIndexAt32.{every_index_at_32}
use Rattle.halving_laws.proofs.Demand3.{demand_3_in_2d, demand_3_in_3d}

-- DEMAND 1. "Any input gets an answer and every call ends. A public call tests its own input": each function of the crates is proved to
-- return and has no `requires`; its contract is an equation with the definitions below, on every input. "A refusal is a number of
-- document 01, given exactly when 01 says so, with result zero and every lent slice untouched":

pub demand_1_encode_2d : (x y order : ℕ) → Refuses (encode_tests top2 order (x ∷ y ∷ [])) (read_coded (encode2 x y order)) 0
unfolding encode2 encode_tests
demand_1_encode_2d x y order = answer_refuses (encode_tests top2 order (x ∷ y ∷ [])) _ _

pub demand_1_encode_3d : (x y z order : ℕ) → Refuses (encode_tests top3 order (x ∷ y ∷ z ∷ [])) (read_coded (encode3 x y z order)) 0
unfolding encode3 encode_tests
demand_1_encode_3d x y z order = answer_refuses (encode_tests top3 order (x ∷ y ∷ z ∷ [])) _ _

pub demand_1_decode_2d : (index order : ℕ) → Refuses (decode_tests 2 top2 order index) (read_cell2 (decode2 index order)) (0 ∷ 0 ∷ [])
unfolding decode2 decode_tests
demand_1_decode_2d index order = answer_refuses (decode_tests 2 top2 order index) _ _

-- 02, 5/14: "At order 32 no index is off the curve, so refusal 3 can't come"
pub demand_1_decode_2d_at_32 : (index : ℕ) → index < 2 ^ 64 → (read_cell2 (decode2 index 32)).number ≡ 0
demand_1_decode_2d_at_32 = every_index_at_32

pub demand_1_decode_3d : (index order : ℕ) → Refuses (decode_tests 3 top3 order index) (read_cell3 (decode3 index order)) (0 ∷ 0 ∷ 0 ∷ [])
unfolding decode3 decode_tests
demand_1_decode_3d index order = answer_refuses (decode_tests 3 top3 order index) _ _

pub demand_1_axis : (low high : Float) (order : ℕ) → Refuses (axis_tests low high order) (read_axis (make_axis low high order)) (Flat nought nought 0)
unfolding make_axis axis_tests
demand_1_axis low high order = answer_refuses (axis_tests low high order) _ _

pub demand_1_cell : (a : Axis) (value : Float) → Refuses (cell_tests (made_up a) (low_of a) (high_of a) value) (read_cell (cell_of a value)) 0
unfolding cell_of cell_tests
demand_1_cell a value = answer_refuses (cell_tests (made_up a) (low_of a) (high_of a) value) _ _

pub demand_1_index_2d : (xs ys : List Float) (order : ℕ) (before : List ℕ)
    → Exactly (index2_tests xs ys order before) (index_all2 xs ys order before).number
    × (0 < (index_all2 xs ys order before).number → (index_all2 xs ys order before).indices ≡ before)
unfolding index_all2 index_tests
demand_1_index_2d xs ys order before = (exactly (index2_tests xs ys order before), untouched _ _ before)

pub demand_1_index_3d : (xs ys zs : List Float) (order : ℕ) (before : List ℕ)
    → Exactly (index3_tests xs ys zs order before) (index_all3 xs ys zs order before).number
    × (0 < (index_all3 xs ys zs order before).number → (index_all3 xs ys zs order before).indices ≡ before)
unfolding index_all3 index_tests
demand_1_index_3d xs ys zs order before = (exactly (index3_tests xs ys zs order before), untouched _ _ before)

-- on axes that are given, and so on those from low to high
pub demand_1_index_2d_on : (xs ys : List Float) (xaxis yaxis : Axis) (order : ℕ) (before : List ℕ)
    → Exactly (on2_tests xs ys xaxis yaxis order before) (index_on2 xs ys xaxis yaxis order before).number
    × (0 < (index_on2 xs ys xaxis yaxis order before).number → (index_on2 xs ys xaxis yaxis order before).indices ≡ before)
unfolding index_on2 on_tests questions asked_of
demand_1_index_2d_on xs ys xaxis yaxis order before = (exactly (on2_tests xs ys xaxis yaxis order before), untouched _ _ before)

pub demand_1_index_3d_on : (xs ys zs : List Float) (xaxis yaxis zaxis : Axis) (order : ℕ) (before : List ℕ)
    → Exactly (on3_tests xs ys zs xaxis yaxis zaxis order before) (index_on3 xs ys zs xaxis yaxis zaxis order before).number
    × (0 < (index_on3 xs ys zs xaxis yaxis zaxis order before).number → (index_on3 xs ys zs xaxis yaxis zaxis order before).indices ≡ before)
unfolding index_on3 on_tests questions asked_of
demand_1_index_3d_on xs ys zs xaxis yaxis zaxis order before = (exactly (on3_tests xs ys zs xaxis yaxis zaxis order before), untouched _ _ before)

-- of halvings in 2D and 3D alike
pub demand_1_halving : (h : Halving) (ws splits ids : List ℕ)
    → Exactly (halving_tests h ws splits ids) (halve h ws splits ids).number
    × (0 < (halve h ws splits ids).number → ((halve h ws splits ids).splits ≡ splits) × ((halve h ws splits ids).ids ≡ ids))
unfolding halve grid_tests
demand_1_halving h ws splits ids =
    (exactly (halving_tests h ws splits ids), λ l. (untouched _ _ splits l, untouched _ _ ids l))

-- DEMAND 2. "Encoders, cell mapping and whole_weight RCB .. are proved equal to 01's rules": the contracts `r ≡ encode2 x y order` and so on.
-- "Decode after encode gives the cell, encode after decode the index", 2D orders 0 to 32, 3D orders 0 to 21:

pub demand_2_decode_encode_2d : DecodeEncode2
demand_2_decode_encode_2d = decode_encode_2d

pub demand_2_encode_decode_2d : EncodeDecode2
demand_2_encode_decode_2d = encode_decode_2d

pub demand_2_decode_encode_3d : DecodeEncode3
demand_2_decode_encode_3d = decode_encode_3d

pub demand_2_encode_decode_3d : EncodeDecode3
demand_2_encode_decode_3d = encode_decode_3d

-- DEMAND 3. "For any accepted grid and depth k .. each id from 0 to 2^k - 1: 99·200^k·w <= 99·101^k·T + 200^(k+1)·M and
-- 101·200^k·w + 200^(k+1)·M >= 101·99^k·T; the w of all ids add up to T", for both editions and every first axis:

pub demand_3_2d : Demand3In2D
demand_3_2d = demand_3_in_2d

pub demand_3_3d : Demand3In3D
demand_3_3d = demand_3_in_3d
