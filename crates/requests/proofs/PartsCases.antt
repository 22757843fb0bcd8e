-- Cases of parts along the curve, by one statement over a list of them: antt computes what the definitions say of each and compares.
-- Assumes nothing.
use Prim.Native.Nat.{ℕ}
use mathlib.Core.Bool.{Bool, true, ◌&&◌}
use mathlib.Core.List.{List, [], ◌∷◌}
use lib.ListN.{replicate}
use lib.Dec.{T, eqb}
use Rattle.rules.specs.Sums.{pick, any, total, top, list}
use Rattle.rules.specs.Refusals.{slice_by}
use Rattle.rules.proofs.NamedCases.{same}
use Rattle.requests.specs.Order.{comes_before, insert, sorted, order_of}
use Rattle.requests.specs.Parts.{weight_all, weight_to, least, reaches, split, part_at, parts_of, parts_tests, Parted, parts_along}

-- a call: the part count, indices and weights, in slices of so many places that hold sevens; its number, and the slices after it
pub data Case : Type 0 where
  call : (n : ℕ) (indices weights : List ℕ) (places : ℕ) (number : ℕ) (parts order : List ℕ) → Case

abbrev pub comes : Parted → ℕ → List ℕ → List ℕ → Bool
comes r number parts order = eqb r.number number && (same r.parts parts && same r.order order)

abbrev pub holds : Case → Bool
holds (call n ix ws places number parts order) = comes (parts_along n ix ws (replicate places 7) (replicate places 7)) number parts order

abbrev pub all : List Case → Bool
all [] = true
all (c ∷ cs) = holds c && all cs

-- in halves; points that share an index; weights that just reach a split, and one that just misses it; no weight at all; more parts than points; then each refusal
-- where all later ones would come too, and the heaviest weight
abbrev pub cases : List Case
cases =
    call 2 (7 ∷ 3 ∷ 5 ∷ 2 ∷ []) (1 ∷ 1 ∷ 1 ∷ 1 ∷ []) 4 0 (1 ∷ 0 ∷ 1 ∷ 0 ∷ []) (3 ∷ 1 ∷ 2 ∷ 0 ∷ [])
    ∷ call 3 (9 ∷ 4 ∷ 4 ∷ 4 ∷ []) (1 ∷ 5 ∷ 5 ∷ 5 ∷ []) 4 0 (2 ∷ 0 ∷ 0 ∷ 0 ∷ []) (1 ∷ 2 ∷ 3 ∷ 0 ∷ [])
    ∷ call 3 (1 ∷ 2 ∷ 3 ∷ 4 ∷ []) (2 ∷ 2 ∷ 1 ∷ 1 ∷ []) 4 0 (0 ∷ 1 ∷ 2 ∷ 2 ∷ []) (0 ∷ 1 ∷ 2 ∷ 3 ∷ [])
    ∷ call 2 (1 ∷ 2 ∷ []) (1 ∷ 2 ∷ []) 2 0 (0 ∷ 0 ∷ []) (0 ∷ 1 ∷ [])
    ∷ call 3 (8 ∷ 6 ∷ 6 ∷ []) (0 ∷ 0 ∷ 0 ∷ []) 3 0 (2 ∷ 0 ∷ 0 ∷ []) (1 ∷ 2 ∷ 0 ∷ [])
    ∷ call 1024 (5 ∷ 0 ∷ []) (3 ∷ 3 ∷ []) 2 0 (512 ∷ 0 ∷ []) (1 ∷ 0 ∷ [])
    ∷ call 0 [] (16777216 ∷ []) 2 12 (7 ∷ 7 ∷ []) (7 ∷ 7 ∷ [])
    ∷ call 1025 [] (16777216 ∷ []) 2 12 (7 ∷ 7 ∷ []) (7 ∷ 7 ∷ [])
    ∷ call 1 [] (16777216 ∷ []) 2 4 (7 ∷ 7 ∷ []) (7 ∷ 7 ∷ [])
    ∷ call 1 (1 ∷ []) (16777216 ∷ []) 2 5 (7 ∷ 7 ∷ []) (7 ∷ 7 ∷ [])
    ∷ call 1 (1 ∷ []) (16777216 ∷ []) 1 11 (7 ∷ []) (7 ∷ [])
    ∷ call 1 (1 ∷ []) (16777215 ∷ []) 1 0 (0 ∷ []) (0 ∷ [])
    ∷ []

pub parts_cases : T (all cases)
unfolding pick any total top list slice_by comes_before insert sorted order_of weight_all weight_to least reaches split part_at parts_of parts_tests parts_along
parts_cases = tt
