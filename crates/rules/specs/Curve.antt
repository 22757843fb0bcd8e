-- The 2D curve and the 3D curve. Assumes nothing.
use Rattle.std.specs.Prelude.{ℕ, zero, suc, ◌+◌, ◌*◌, ◌/◌, ◌%◌, ◌^◌, List, [], ◌∷◌, get_or, eqb, Result}
use Rattle.rules.specs.Sums.{pick}
use Rattle.rules.specs.Refusals.{top2, top3, encode_tests, decode_tests, answer_by}
use Rattle.rules.specs.declared.refusal.Refusal.{Refusal}

-- THE LEVEL MACHINE, in d dimensions: of a state and one of 2^d quadrants, the digit and the next state

pub record Machine (d : ℕ) : Type 0 where
  pub states : ℕ
  pub digit : ℕ → ℕ → ℕ
  pub next : ℕ → ℕ → ℕ

-- the w bits of n from place m up
abbrev pub part : ℕ → ℕ → ℕ → ℕ
part w m n = n / 2 ^ m % 2 ^ w

-- bit k of x, and the digit of level k of n in base 2^d
abbrev pub bit : ℕ → ℕ → ℕ
bit k x = part 1 k x

abbrev pub level : ℕ → ℕ → ℕ → ℕ
level d k n = part d (d * k) n

-- the quadrant of level k of a cell: the bit of axis e has weight 2^e
abbrev pub quadrant : ℕ → ℕ → (ℕ → ℕ) → ℕ
quadrant zero k c = 0
quadrant (suc e) k c = bit k (c e) * 2 ^ e + quadrant e k c

-- the digits in base 2^d of the lowest k levels, from the top down, of quadrants q met in state s
unfoldable pub encode : {d : ℕ} → Machine d → ℕ → ℕ → (ℕ → ℕ) → ℕ
encode M zero s q = 0
encode {d} M (suc k) s q = M.digit s (q k) * 2 ^ (d * k) + encode M k (M.next s (q k)) q

-- the state after those levels
unfoldable pub end : {d : ℕ} → Machine d → ℕ → ℕ → (ℕ → ℕ) → ℕ
end M zero s q = s
end M (suc k) s q = end M k (M.next s (q k)) q

-- a row's inverse: the quadrant, among the first n, whose digit in state s is g
unfoldable pub seek_digit : {d : ℕ} → Machine d → ℕ → ℕ → ℕ → ℕ
seek_digit M s g zero = 0
seek_digit M s g (suc n) = pick (eqb (M.digit s n) g) n (seek_digit M s g n)

unfoldable pub undo : {d : ℕ} → Machine d → ℕ → ℕ → ℕ
undo {d} M s g = seek_digit M s g (2 ^ d)

-- the coordinate on axis e of the lowest k levels, from the top down, of digits g met in state s
unfoldable pub decode : {d : ℕ} → Machine d → ℕ → ℕ → ℕ → (ℕ → ℕ) → ℕ
decode M e zero s g = 0
decode M e (suc k) s g = bit e (undo M s (g k)) * 2 ^ k + decode M e k (M.next s (undo M s (g k))) g

-- the table of six levels at once, in 2D: at 4096 * state + interleaved bits stands 4096 * (end state) + six digits
unfoldable pub group_entry : {d : ℕ} → Machine d → ℕ → ℕ → ℕ
group_entry {d} M levels i =
    let s : ℕ = i / 2 ^ (d * levels) in
    let q : ℕ → ℕ = λ k. level d k (i % 2 ^ (d * levels)) in
    2 ^ (d * levels) * end M levels s q + encode M levels s q

-- THE TWO MACHINES

-- 2D, at 4 * state + quadrant: the digit, and the next state
unfoldable pub digit_table : List ℕ
digit_table =
    0 ∷ 1 ∷ 3 ∷ 2
    ∷ 0 ∷ 3 ∷ 1 ∷ 2
    ∷ 2 ∷ 3 ∷ 1 ∷ 0
    ∷ 2 ∷ 1 ∷ 3 ∷ 0 ∷ []

unfoldable pub next_table : List ℕ
next_table =
    1 ∷ 0 ∷ 3 ∷ 0
    ∷ 0 ∷ 2 ∷ 1 ∷ 1
    ∷ 2 ∷ 1 ∷ 2 ∷ 3
    ∷ 3 ∷ 3 ∷ 0 ∷ 2 ∷ []

unfoldable pub plane : Machine 2
plane = record { states = 4; digit = λ s q. get_or digit_table (4 * s + q) 0; next = λ s q. get_or next_table (4 * s + q) 0 }

-- 3D, at 8 * state + octant: 8 * (next state) + digit
unfoldable pub octant_table : List ℕ
octant_table =
    48 ∷ 33 ∷ 27 ∷ 34 ∷ 47 ∷ 78 ∷ 28 ∷ 77
    ∷ 66 ∷ 29 ∷ 51 ∷ 52 ∷ 65 ∷ 30 ∷ 72 ∷ 63
    ∷ 76 ∷ 95 ∷ 75 ∷ 24 ∷ 53 ∷ 54 ∷ 82 ∷ 81
    ∷ 18 ∷ 3 ∷ 17 ∷ 80 ∷ 61 ∷ 4 ∷ 62 ∷ 15
    ∷ 0 ∷ 59 ∷ 71 ∷ 60 ∷ 49 ∷ 50 ∷ 86 ∷ 85
    ∷ 84 ∷ 83 ∷ 5 ∷ 90 ∷ 79 ∷ 56 ∷ 6 ∷ 89
    ∷ 32 ∷ 23 ∷ 1 ∷ 94 ∷ 11 ∷ 12 ∷ 2 ∷ 93
    ∷ 42 ∷ 41 ∷ 13 ∷ 14 ∷ 35 ∷ 88 ∷ 36 ∷ 31
    ∷ 92 ∷ 37 ∷ 87 ∷ 38 ∷ 91 ∷ 74 ∷ 8 ∷ 73
    ∷ 46 ∷ 45 ∷ 9 ∷ 10 ∷ 7 ∷ 20 ∷ 64 ∷ 19
    ∷ 70 ∷ 25 ∷ 39 ∷ 16 ∷ 69 ∷ 26 ∷ 44 ∷ 43
    ∷ 22 ∷ 55 ∷ 21 ∷ 68 ∷ 57 ∷ 40 ∷ 58 ∷ 67 ∷ []

unfoldable pub space : Machine 3
space = record { states = 12; digit = λ s q. get_or octant_table (8 * s + q) 0 % 8; next = λ s q. get_or octant_table (8 * s + q) 0 / 8 }

-- THE CALLS

-- a cell, as its coordinate on each axis: x is the last axis, so that its bit weighs most
abbrev pub cell2 : ℕ → ℕ → ℕ → ℕ
cell2 x y zero = y
cell2 x y (suc e) = x

abbrev pub cell3 : ℕ → ℕ → ℕ → ℕ → ℕ
cell3 x y z zero = z
cell3 x y z (suc zero) = y
cell3 x y z (suc (suc e)) = x

-- the index of a cell, and the coordinate on axis e of an index, starting in state 0
unfoldable pub index_of : {d : ℕ} → Machine d → ℕ → (ℕ → ℕ) → ℕ
index_of {d} M order c = encode M order 0 (λ k. quadrant d k c)

unfoldable pub coordinate_of : {d : ℕ} → Machine d → ℕ → ℕ → ℕ → ℕ
coordinate_of {d} M order index e = decode M e order 0 (λ k. level d k index)

unfoldable pub encode2 : ℕ → ℕ → ℕ → Result ℕ Refusal
encode2 x y order = answer_by (encode_tests top2 order (x ∷ y ∷ [])) (index_of plane order (cell2 x y))

unfoldable pub encode3 : ℕ → ℕ → ℕ → ℕ → Result ℕ Refusal
encode3 x y z order = answer_by (encode_tests top3 order (x ∷ y ∷ z ∷ [])) (index_of space order (cell3 x y z))

unfoldable pub decode2 : ℕ → ℕ → Result (List ℕ) Refusal
decode2 index order = answer_by (decode_tests 2 top2 order index) (coordinate_of plane order index 1 ∷ coordinate_of plane order index 0 ∷ [])

unfoldable pub decode3 : ℕ → ℕ → Result (List ℕ) Refusal
decode3 index order =
    answer_by
    (decode_tests 3 top3 order index)
    (coordinate_of space order index 2 ∷ coordinate_of space order index 1 ∷ coordinate_of space order index 0 ∷ [])

-- the order of a call that names none
abbrev pub default_order : ℕ
default_order = 16

-- THE DEPOSIT: the source's bits, lowest first, onto the mask's set bits, lowest first

-- what is left of the source after a bit of the mask, and what that bit takes of it
abbrev pub rest : ℕ → ℕ → ℕ
rest zero s = s
rest (suc b) s = s / 2

abbrev pub placed : ℕ → ℕ → ℕ
placed zero s = 0
placed (suc b) s = s % 2

-- the source s spread onto the lowest k bits of the mask m
unfoldable pub spread : ℕ → ℕ → ℕ → ℕ
spread zero s m = 0
spread (suc k) s m = spread k (rest (m % 2) s) (m / 2) * 2 + placed (m % 2) s

-- both numbers have 64 bits
abbrev pub deposit_of : ℕ → ℕ → ℕ
deposit_of source mask = spread 64 source mask
