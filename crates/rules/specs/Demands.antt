-- The demands, as statements. Assumes nothing.
use Rattle.std.specs.Prelude.{ℕ, zero, suc, ◌+◌, ◌-◌, ◌*◌, ◌^◌, ◌≤◌, ◌<◌, ◌≡◌, true, false, List, [], ◌∷◌, get_or, eqb, Result, Ok}
use Rattle.rules.specs.Sums.{total, sum_where}
use Rattle.rules.specs.Grid.{cells, all_weight, heaviest_line}
use Rattle.rules.specs.Refusals.{Test, number_of, top2, top3}
use Rattle.rules.specs.declared.refusal.Refusal.{Refusal}
use Rattle.rules.specs.Curve.{encode2, encode3, decode2, decode3}
use Rattle.rules.specs.Halving.{Halving, halving2, halving3, refusal_of, halve}
use Rattle.rules.specs.declared.Halving2.{Halving2}
use Rattle.rules.specs.declared.Halving3.{Halving3}

-- DEMAND 1: a refusal is given exactly when 01 says so

-- of tests in order: test i is the first that passes, and none passes
abbrev pub FirstIs : List Test → ℕ → Type 0
FirstIs [] i = ⊥
FirstIs (t ∷ ts) zero = t.passes ≡ true
FirstIs (t ∷ ts) (suc i) = (t.passes ≡ false) × FirstIs ts i

abbrev pub NonePasses : List Test → Type 0
NonePasses [] = Unit {0}
NonePasses (t ∷ ts) = (t.passes ≡ false) × NonePasses ts

-- the number of test i
abbrev pub number_at : List Test → ℕ → ℕ
number_at [] i = 0
number_at (t ∷ ts) zero = number_of t.refusal
number_at (t ∷ ts) (suc i) = number_at ts i

-- both ways: the first test that passes gives its number, and where none passes the number is 0; a number other than 0 is that of the
-- first test that passes, and where it is 0 none passes
pub record Exactly (tests : List Test) (number : ℕ) : Type 0 where
  pub first : (i : ℕ) → FirstIs tests i → number ≡ number_at tests i
  pub none : NonePasses tests → number ≡ 0
  pub refused : 0 < number → (i : ℕ) × FirstIs tests i × (number ≡ number_at tests i)
  pub answered : number ≡ 0 → NonePasses tests

-- DEMAND 2: decode after encode gives the cell, encode after decode the index

abbrev pub DecodeEncode2 : Type 0
DecodeEncode2 =
    (x y order : ℕ) → order ≤ top2 → x < 2 ^ order → y < 2 ^ order
    → (i : ℕ) × (encode2 x y order ≡ Ok i) × (decode2 i order ≡ Ok (x ∷ y ∷ []))

abbrev pub EncodeDecode2 : Type 0
EncodeDecode2 =
    (i order : ℕ) → order ≤ top2 → i < 4 ^ order
    → (x : ℕ) × (y : ℕ) × (decode2 i order ≡ Ok (x ∷ y ∷ [])) × (encode2 x y order ≡ Ok i)

abbrev pub DecodeEncode3 : Type 0
DecodeEncode3 =
    (x y z order : ℕ) → order ≤ top3 → x < 2 ^ order → y < 2 ^ order → z < 2 ^ order
    → (i : ℕ) × (encode3 x y z order ≡ Ok i) × (decode3 i order ≡ Ok (x ∷ y ∷ z ∷ []))

abbrev pub EncodeDecode3 : Type 0
EncodeDecode3 =
    (i order : ℕ) → order ≤ top3 → i < 8 ^ order
    → (x : ℕ) × (y : ℕ) × (z : ℕ) × (decode3 i order ≡ Ok (x ∷ y ∷ z ∷ [])) × (encode3 x y z order ≡ Ok i)

-- DEMAND 3

-- the weight of the cells that have the id i
unfoldable pub part_weight : List ℕ → List ℕ → List ℕ → ℕ → ℕ
part_weight sides ws ids i = sum_where (λ c. eqb (get_or ids c 0) i) (λ c. get_or ws c 0) (cells sides)

-- of k levels, the weight w of an id, the weight T of all cells and the heaviest line M
pub record Balanced (k w T M : ℕ) : Type 0 where
  pub upper : 99 * 200 ^ k * w ≤ 99 * 101 ^ k * T + 200 ^ (k + 1) * M
  pub lower : 101 * 99 ^ k * T ≤ 101 * 200 ^ k * w + 200 ^ (k + 1) * M

-- of the ids of k levels: each id is balanced, and the weights of all ids add up to T
pub record Demand3 (sides ws : List ℕ) (k : ℕ) (ids : List ℕ) : Type 0 where
  pub balanced : (i : ℕ) → i < 2 ^ k → Balanced k (part_weight sides ws ids i) (all_weight sides ws) (heaviest_line sides ws)
  pub adds_up : total (part_weight sides ws ids) (2 ^ k) ≡ all_weight sides ws

-- of every accepted call
abbrev pub Demand3Of : Halving → Type 0
Demand3Of h = (ws splits ids : List ℕ) → refusal_of h ws splits ids ≡ 0 → Demand3 h.sides ws h.depth (halve h ws splits ids).ids

abbrev pub Demand3In2D : Type 0
Demand3In2D = (h : Halving2) → Demand3Of (halving2 h)

abbrev pub Demand3In3D : Type 0
Demand3In3D = (h : Halving3) → Demand3Of (halving3 h)

-- NEIGHBOURS, 02's 13/14: successive indices decode to neighbouring cells; the curve begins in the corner at 0 and ends at the far end of x

-- how far apart two numbers are
abbrev pub apart : ℕ → ℕ → ℕ
apart a b = (a - b) + (b - a)

-- cells, and no refusals, whose differences on all axes add up to 1: by 1 in one coordinate and not at all in the others
-- (`one_coordinate_by_one` of curve_laws)
abbrev pub Beside2 : Result (List ℕ) Refusal → Result (List ℕ) Refusal → Type 0
Beside2 c k = (x : ℕ) × (y : ℕ) × (u : ℕ) × (v : ℕ) × (c ≡ Ok (x ∷ y ∷ [])) × (k ≡ Ok (u ∷ v ∷ [])) × (apart x u + apart y v ≡ 1)

abbrev pub Beside3 : Result (List ℕ) Refusal → Result (List ℕ) Refusal → Type 0
Beside3 c k =
    (x : ℕ) × (y : ℕ) × (z : ℕ) × (u : ℕ) × (v : ℕ) × (w : ℕ)
    × (c ≡ Ok (x ∷ y ∷ z ∷ [])) × (k ≡ Ok (u ∷ v ∷ w ∷ [])) × (apart x u + apart y v + apart z w ≡ 1)

abbrev pub Neighbours2 : Type 0
Neighbours2 = (i order : ℕ) → order ≤ top2 → i + 1 < 4 ^ order → Beside2 (decode2 i order) (decode2 (i + 1) order)

abbrev pub Neighbours3 : Type 0
Neighbours3 = (i order : ℕ) → order ≤ top3 → i + 1 < 8 ^ order → Beside3 (decode3 i order) (decode3 (i + 1) order)

abbrev pub Ends2 : Type 0
Ends2 = (order : ℕ) → order ≤ top2 → (decode2 0 order ≡ Ok (0 ∷ 0 ∷ [])) × (decode2 (4 ^ order - 1) order ≡ Ok ((2 ^ order - 1) ∷ 0 ∷ []))

abbrev pub Ends3 : Type 0
Ends3 = (order : ℕ) → order ≤ top3 → (decode3 0 order ≡ Ok (0 ∷ 0 ∷ 0 ∷ [])) × (decode3 (8 ^ order - 1) order ≡ Ok ((2 ^ order - 1) ∷ 0 ∷ 0 ∷ []))
