-- A bench night replayed (02, 12/14): events add amounts to the cells of a grid, and the grid is halved afresh where demand 3 is broken. The
-- machine here keeps nothing but its answers: it works out every weight and every sum from the history. Assumes nothing.
use Rattle.std.specs.Prelude.{ℕ, zero, suc, ◌+◌, ◌*◌, ◌^◌, ◌<◌, ◌≡◌, Bool, not, ◌&&◌, ◌||◌, List, [], ◌∷◌, ◌++◌, length, leb, ltb, eqb}
use Rattle.rules.specs.Sums.{pick, any, sum_where, list}
use Rattle.rules.specs.Grid.{all_weight, heaviest_line}
use Rattle.rules.specs.Refusals.{top_weight, Test, test, first_of, first_unknown, sides_unfit, depth_over, lengths_off, grid_lengths_off, weight_over, slice_by}
use Rattle.rules.specs.declared.refusal.Refusal.TheVariants.{Lengths, Sides, Depth, Weight, Edition, First, Cell}
use Rattle.rules.specs.Halving.{Halving, splits_by, ids_by}
use Rattle.rules.specs.Demands.{Exactly, part_weight, Demand3}
use Rattle.requests.specs.Order.{at, numbers}

-- THE HISTORY

-- the starting weights, and of each event its cell and its amount
pub record Night : Type 0 where
  pub start : List ℕ
  pub cells : List ℕ
  pub amounts : List ℕ

abbrev pub night : List ℕ → List ℕ → List ℕ → Night
night ws cs ms = record { start = ws; cells = cs; amounts = ms }

-- an event's answer, by the weights of that moment: 20 outside the grid, 11 a cell that would be too heavy, else 0
unfoldable pub event_tests : List ℕ → ℕ → ℕ → List Test
event_tests ws cell amount = test (leb (length ws) cell) Cell ∷ test (ltb top_weight (at ws cell + amount)) Weight ∷ []

abbrev pub answer_to : List ℕ → ℕ → ℕ → ℕ
answer_to ws cell amount = first_of (event_tests ws cell amount)

-- by the answers to the first events: a cell's weight is its start plus the accepted amounts
unfoldable pub weight_by : Night → List ℕ → ℕ → ℕ
weight_by t said c = at t.start c + sum_where (λ j. eqb (at said j) 0 && eqb (at t.cells j) c) (at t.amounts) (length said)

unfoldable pub weights_by : Night → List ℕ → List ℕ
weights_by t said = list (weight_by t said) (length t.start)

-- the answers to the first n events
unfoldable pub said_at : Night → ℕ → List ℕ
said_at t zero = []
said_at t (suc n) = said_at t n ++ (answer_to (weights_by t (said_at t n)) (at t.cells n) (at t.amounts n) ∷ [])

-- the weights after n events, and the answer to the next
unfoldable pub weights_at : Night → ℕ → List ℕ
weights_at t n = weights_by t (said_at t n)

unfoldable pub answer_at : Night → ℕ → ℕ
answer_at t n = answer_to (weights_at t n) (at t.cells n) (at t.amounts n)

-- THE IDS IN FORCE

-- demand 3's two bounds, of k levels, as tests of the weight w of an id, the weight T of all cells and the heaviest line M
abbrev pub upper : ℕ → ℕ → ℕ → ℕ → Bool
upper k w T M = leb (99 * 200 ^ k * w) (99 * 101 ^ k * T + 200 ^ (k + 1) * M)

abbrev pub lower : ℕ → ℕ → ℕ → ℕ → Bool
lower k w T M = leb (101 * 99 ^ k * T) (101 * 200 ^ k * w + 200 ^ (k + 1) * M)

-- whether one of them is broken for some id: w i is the weight of id i
unfoldable pub some_broken : ℕ → (ℕ → ℕ) → ℕ → ℕ → Bool
some_broken k w T M = any (λ i. not (upper k (w i) T M && lower k (w i) T M)) (numbers (2 ^ k))

unfoldable pub broken : Halving → List ℕ → List ℕ → Bool
broken h ws ids = some_broken h.depth (part_weight h.sides ws ids) (all_weight h.sides ws) (heaviest_line h.sides ws)

-- after how many of the first n events the grid was halved last: afresh after an accepted event that breaks a bound
unfoldable pub halved_at : Halving → Night → ℕ → ℕ
halved_at h t zero = 0
halved_at h t (suc n) =
    pick (eqb (answer_at t n) 0 && broken h (weights_at t (suc n)) (ids_by h (weights_at t (halved_at h t n)))) (suc n) (halved_at h t n)

-- the splits and ids in force after n events: those of the last halving
abbrev pub splits_at : Halving → Night → ℕ → List ℕ
splits_at h t n = splits_by h (weights_at t (halved_at h t n))

abbrev pub ids_at : Halving → Night → ℕ → List ℕ
ids_at h t n = ids_by h (weights_at t (halved_at h t n))

-- THE CALL

-- 13: a replay halves by edition 2 alone
abbrev pub not_edition2 : ℕ → Bool
not_edition2 n = not (eqb n 2)

-- 5: of the slices of a halving, and of amounts and answers for so many events
abbrev pub replay_lengths_off : List ℕ → ℕ → ℕ → ℕ → ℕ → ℕ → ℕ → ℕ → Bool
replay_lengths_off sides k weights ids splits events amounts answers =
    grid_lengths_off sides k weights ids splits || lengths_off events (amounts ∷ answers ∷ [])

-- of a halving, the weights, cells and amounts, and what the slices of answers, splits and ids hold
unfoldable pub replay_tests : Halving → List ℕ → List ℕ → List ℕ → List ℕ → List ℕ → List ℕ → List Test
replay_tests h ws cs ms answers splits ids =
    test (not_edition2 h.edition) Edition
    ∷ test (first_unknown (length h.sides) h.first) First
    ∷ test (sides_unfit h.sides) Sides
    ∷ test (depth_over h.depth) Depth
    ∷ test (replay_lengths_off h.sides h.depth (length ws) (length ids) (length splits) (length cs) (length ms) (length answers)) Lengths
    ∷ test (weight_over ws) Weight ∷ []

-- a call's number, and what it leaves in the lent slices
pub record Replayed : Type 0 where
  pub number : ℕ
  pub weights : List ℕ
  pub answers : List ℕ
  pub splits : List ℕ
  pub ids : List ℕ

unfoldable pub replay : Halving → List ℕ → List ℕ → List ℕ → List ℕ → List ℕ → List ℕ → Replayed
replay h ws cs ms answers splits ids =
    let r : ℕ = first_of (replay_tests h ws cs ms answers splits ids) in
    let t : Night = night ws cs ms in
    let n : ℕ = length cs in
    record {
      number = r;
      weights = slice_by r (weights_at t n) ws;
      answers = slice_by r (said_at t n) answers;
      splits = slice_by r (splits_at h t n) splits;
      ids = slice_by r (ids_at h t n) ids;
    }

-- WHAT IS TO BE SHOWN

-- an event that is refused changes no weight, and leaves the splits and ids in force
abbrev pub Unchanged : Halving → Night → ℕ → Type 0
Unchanged h t n =
    0 < answer_at t n
    → (weights_at t (suc n) ≡ weights_at t n) × (splits_at h t (suc n) ≡ splits_at h t n) × (ids_at h t (suc n) ≡ ids_at h t n)

-- of a call: its number is exactly as its tests say, and a refused call leaves the slices as they were; in any other, the ids in force meet
-- demand 3 after each event, by the weights of that moment, a refused event changes nothing, each cell's weight at the end is its start
-- plus the accepted amounts, and the ids at the end meet demand 3 by them
pub record ReplayDemand (h : Halving) (ws cs ms answers splits ids : List ℕ) (after : Replayed) : Type 0 where
  pub number : Exactly (replay_tests h ws cs ms answers splits ids) after.number
  pub untouched : 0 < after.number → (after.weights ≡ ws) × (after.answers ≡ answers) × (after.splits ≡ splits) × (after.ids ≡ ids)
  pub each : after.number ≡ 0 → (n : ℕ) → Demand3 h.sides (weights_at (night ws cs ms) n) h.depth (ids_at h (night ws cs ms) n)
  pub unchanged : after.number ≡ 0 → (n : ℕ) → Unchanged h (night ws cs ms) n
  pub history : after.number ≡ 0 → (c : ℕ) → c < length ws
      → at after.weights c ≡ at ws c + sum_where (λ j. eqb (at after.answers j) 0 && eqb (at cs j) c) (at ms) (length cs)
  pub last : after.number ≡ 0 → Demand3 h.sides after.weights h.depth after.ids
