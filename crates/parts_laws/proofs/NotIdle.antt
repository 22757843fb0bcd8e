-- The bound of parts is not idle, by computing: a part comes within 1 of it, and with the heaviest single weight in place of the heaviest
-- on one index it is false. Assumes nothing.
use Prim.Native.Nat.{ℕ, ◌+◌, ◌*◌}
use mathlib.Core.List.{List, [], ◌∷◌}
use lib.ListN.{length, replicate}
use lib.Dec.{T, eqb, ltb}
use Rattle.rules.specs.Sums.{pick, total, top, list}
use Rattle.requests.specs.Order.{at}
use Rattle.requests.specs.Parts.{weight_all, weight_to, weight_on, heaviest_on, least, reaches, split, part_at, parts_of, weight_in}

-- the weight of part k of n
abbrev w : ℕ → List ℕ → List ℕ → ℕ → ℕ
w n ix ws k = weight_in ix ws (parts_of n ix ws) k

-- weights 1 and 2 in two parts: part 0 has all three, and 2·3 + 1 is 3 + 2·2
pub sharp : T (eqb (2 * w 2 (0 ∷ 1 ∷ []) (1 ∷ 2 ∷ []) 0 + 1) (weight_all (0 ∷ 1 ∷ []) (1 ∷ 2 ∷ []) + 2 * heaviest_on (0 ∷ 1 ∷ []) (1 ∷ 2 ∷ [])))
unfolding pick total top list weight_all weight_to weight_on heaviest_on least reaches split part_at parts_of weight_in
sharp = tt

-- ten points of weight 1 on one index in two parts: part 0 has all ten, and 2·10 is over 10 + 2·1
abbrev ten_ones : List ℕ
ten_ones = replicate 10 1

pub not_single_weights : T (ltb (weight_all ten_ones ten_ones + 2 * top (at ten_ones) (length ten_ones)) (2 * w 2 ten_ones ten_ones 0))
unfolding pick total top list weight_all weight_to least reaches split part_at parts_of weight_in
not_single_weights = tt
