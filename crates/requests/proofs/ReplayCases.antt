-- Cases of a replayed night, by one statement over a list of them: antt computes what the definitions say of each and compares. Assumes nothing.
use Prim.Native.Nat.{ℕ, ◌-◌, ◌^◌}
use mathlib.Core.Bool.{Bool, true, ◌&&◌}
use mathlib.Core.List.{List, [], ◌∷◌}
use lib.ListN.{length, replicate}
use lib.Dec.{T, eqb}
use Rattle.rules.specs.Sums.{pick, any, total, top, list}
use Rattle.rules.specs.Grid.{cells, coords, whole, inside, edge, side, before, after, all_weight, weight, line, heaviest, heaviest_line}
use Rattle.rules.specs.Refusals.{slice_by}
use Rattle.rules.specs.Halving.{lo_of, hi_of, whole_up, lo_up_of, edition_of, reach, settle, cut_of, cut_at, next_axis, unless_flat, fill, splits_of, turn, walk, id_of, ids_of, Halving, halving2, halving3}
use Rattle.rules.specs.Demands.{part_weight}
use Rattle.rules.proofs.NamedCases.{same}
use Rattle.requests.specs.Replay.{event_tests, weight_by, weights_by, said_at, weights_at, answer_at, some_broken, broken, halved_at, replay_tests, Replayed, replay}

-- a call: edition, sides, first axis and depth; weights, and the events' cells and amounts; in a slice of answers of so many places, and slices of splits and
-- ids of the right lengths, all of which hold sevens; its number, and the slices after it
pub data Case : Type 0 where
  flat : (edition width height first depth : ℕ) (weights cells amounts : List ℕ) (places : ℕ) (number : ℕ) (weighed answers splits ids : List ℕ) → Case
  solid : (edition width height layers first depth : ℕ) (weights cells amounts : List ℕ) (places : ℕ) (number : ℕ) (weighed answers splits ids : List ℕ) → Case

abbrev pub comes : Halving → List ℕ → List ℕ → List ℕ → ℕ → ℕ → List ℕ → List ℕ → List ℕ → List ℕ → Bool
comes h ws cs ms places number weighed answers splits ids =
    let r : Replayed = replay h ws cs ms (replicate places 7) (replicate (2 ^ h.depth - 1) 7) (replicate (length ws) 7) in
    eqb r.number number && (same r.weights weighed && (same r.answers answers && (same r.splits splits && same r.ids ids)))

abbrev pub holds : Case → Bool
holds (flat e w h f k ws cs ms places n weighed answers splits ids) =
    comes (halving2 (record { edition = e; width = w; height = h; first = f; depth = k })) ws cs ms places n weighed answers splits ids
holds (solid e w h l f k ws cs ms places n weighed answers splits ids) =
    comes (halving3 (record { edition = e; width = w; height = h; layers = l; first = f; depth = k })) ws cs ms places n weighed answers splits ids

abbrev pub all : List Case → Bool
all [] = true
all (c ∷ cs) = holds c && all cs

-- the third event breaks the upper bound, and the grid is halved afresh; the fifth breaks the lower bound alone; no bound is broken where one line has all the weight; cells outside, cells too heavy
-- by 1 and by 2^64 - 1, both at once; no event; in 3D; then each refusal where all later ones would come too
abbrev pub cases : List Case
cases =
    flat 2 3 3 1 2 (replicate 9 0) (0 ∷ 4 ∷ 8 ∷ []) (1 ∷ 1 ∷ 1 ∷ []) 3 0 (1 ∷ 0 ∷ 0 ∷ 0 ∷ 1 ∷ 0 ∷ 0 ∷ 0 ∷ 1 ∷ []) (0 ∷ 0 ∷ 0 ∷ []) (1 ∷ 0 ∷ 2 ∷ []) (1 ∷ 1 ∷ 1 ∷ 2 ∷ 2 ∷ 3 ∷ 2 ∷ 2 ∷ 3 ∷ [])
    ∷ flat 2 5 5 1 1 (replicate 25 0) (0 ∷ 6 ∷ 12 ∷ 18 ∷ 24 ∷ []) (20 ∷ 20 ∷ 20 ∷ 20 ∷ 1 ∷ []) 5 0 (20 ∷ 0 ∷ 0 ∷ 0 ∷ 0 ∷ 0 ∷ 20 ∷ 0 ∷ 0 ∷ 0 ∷ 0 ∷ 0 ∷ 20 ∷ 0 ∷ 0 ∷ 0 ∷ 0 ∷ 0 ∷ 20 ∷ 0 ∷ 0 ∷ 0 ∷ 0 ∷ 0 ∷ 1 ∷ []) (0 ∷ 0 ∷ 0 ∷ 0 ∷ 0 ∷ []) (2 ∷ []) (0 ∷ 0 ∷ 0 ∷ 0 ∷ 0 ∷ 0 ∷ 0 ∷ 0 ∷ 0 ∷ 0 ∷ 1 ∷ 1 ∷ 1 ∷ 1 ∷ 1 ∷ 1 ∷ 1 ∷ 1 ∷ 1 ∷ 1 ∷ 1 ∷ 1 ∷ 1 ∷ 1 ∷ 1 ∷ [])
    ∷ flat 2 2 1 0 1 (0 ∷ 0 ∷ []) (0 ∷ 1 ∷ []) (1 ∷ 1 ∷ []) 2 0 (1 ∷ 1 ∷ []) (0 ∷ 0 ∷ []) (0 ∷ []) (1 ∷ 1 ∷ [])
    ∷ flat 2 2 2 1 1 (16777215 ∷ 0 ∷ 0 ∷ 0 ∷ []) (4 ∷ 0 ∷ 1 ∷ 1 ∷ 0 ∷ []) (18446744073709551615 ∷ 1 ∷ 16777215 ∷ 18446744073709551615 ∷ 0 ∷ []) 5 0 (16777215 ∷ 16777215 ∷ 0 ∷ 0 ∷ []) (20 ∷ 11 ∷ 0 ∷ 11 ∷ 0 ∷ []) (0 ∷ []) (1 ∷ 1 ∷ 1 ∷ 1 ∷ [])
    ∷ flat 2 2 1 0 1 (1 ∷ 1 ∷ []) [] [] 0 0 (1 ∷ 1 ∷ []) [] (1 ∷ []) (0 ∷ 1 ∷ [])
    ∷ solid 2 2 1 2 2 1 (1 ∷ 0 ∷ 0 ∷ 1 ∷ []) (3 ∷ 0 ∷ 2 ∷ []) (1 ∷ 2 ∷ 5 ∷ []) 3 0 (3 ∷ 0 ∷ 5 ∷ 2 ∷ []) (0 ∷ 0 ∷ 0 ∷ []) (1 ∷ []) (0 ∷ 0 ∷ 1 ∷ 1 ∷ [])
    ∷ flat 1 0 2 2 13 (16777216 ∷ []) (0 ∷ []) [] 0 13 (16777216 ∷ []) [] (replicate 8191 7) (7 ∷ [])
    ∷ flat 2 0 2 2 1 (16777216 ∷ []) (0 ∷ []) [] 0 14 (16777216 ∷ []) [] (7 ∷ []) (7 ∷ [])
    ∷ flat 2 0 2 1 13 (16777216 ∷ []) (0 ∷ []) [] 0 9 (16777216 ∷ []) [] (replicate 8191 7) (7 ∷ [])
    ∷ flat 2 1 1 1 13 (16777216 ∷ []) (0 ∷ []) [] 0 10 (16777216 ∷ []) [] (replicate 8191 7) (7 ∷ [])
    ∷ flat 2 1 1 1 1 (16777216 ∷ []) (0 ∷ []) (1 ∷ []) 0 5 (16777216 ∷ []) [] (7 ∷ []) (7 ∷ [])
    ∷ flat 2 1 1 1 1 (16777216 ∷ []) (0 ∷ []) [] 1 5 (16777216 ∷ []) (7 ∷ []) (7 ∷ []) (7 ∷ [])
    ∷ flat 2 1 1 1 1 (16777216 ∷ []) (0 ∷ []) (1 ∷ []) 1 11 (16777216 ∷ []) (7 ∷ []) (7 ∷ []) (7 ∷ [])
    ∷ []

pub replay_cases : T (all cases)
unfolding pick any total top list cells coords whole inside edge side before after all_weight weight line heaviest heaviest_line slice_by lo_of hi_of whole_up lo_up_of edition_of reach settle cut_of cut_at next_axis unless_flat fill splits_of turn walk id_of ids_of part_weight event_tests weight_by weights_by said_at weights_at answer_at some_broken broken halved_at replay_tests replay
replay_cases = tt
