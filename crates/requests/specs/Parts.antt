-- Parts along the curve (02, 1/14): each point gets one of n parts, by its index and by the weights of all points. Point p has the index
-- at ix p and the weight at ws p. Assumes nothing.
use Rattle.std.specs.Prelude.{ℕ, zero, suc, ◌+◌, ◌-◌, ◌*◌, ◌≤◌, ◌<◌, min, ◌≡◌, Bool, ◌||◌, List, [], ◌∷◌, length, leb, ltb, eqb}
use Rattle.rules.specs.Sums.{pick, total, sum_where, top, list}
use Rattle.rules.specs.Refusals.{Test, test, first_of, no_points, lengths_off, weight_over, slice_by}
use Rattle.rules.specs.declared.refusal.Refusal.TheVariants.{NoPoints, Lengths, Weight, Counts}
use Rattle.rules.specs.Demands.{Exactly}
use Rattle.requests.specs.Order.{top_points, at, order_of, OrderList}

-- WEIGHTS of all points, of those at or below an index, and of those on an index

unfoldable pub weight_all : List ℕ → List ℕ → ℕ
weight_all ix ws = total (at ws) (length ix)

unfoldable pub weight_to : List ℕ → List ℕ → ℕ → ℕ
weight_to ix ws x = sum_where (λ p. leb (at ix p) x) (at ws) (length ix)

unfoldable pub weight_on : List ℕ → List ℕ → ℕ → ℕ
weight_on ix ws x = sum_where (λ p. eqb (at ix p) x) (at ws) (length ix)

-- the heaviest weight on one index
unfoldable pub heaviest_on : List ℕ → List ℕ → ℕ
heaviest_on ix ws = top (λ p. weight_on ix ws (at ix p)) (length ix)

-- SPLITS

-- the smallest f p of the numbers p below n that pass the test, and d where that is smaller or none passes
unfoldable pub least : (ℕ → Bool) → (ℕ → ℕ) → ℕ → ℕ → ℕ
least t f d zero = d
least t f d (suc n) = pick (t n) (min (f n) (least t f d n)) (least t f d n)

-- whether n times the weight at or below an index reaches i times the weight of all
unfoldable pub reaches : ℕ → List ℕ → List ℕ → ℕ → ℕ → Bool
reaches n ix ws i x = leb (i * weight_all ix ws) (n * weight_to ix ws x)

-- split i: the smallest index present that reaches. The largest present does for every i up to n
unfoldable pub split : ℕ → List ℕ → List ℕ → ℕ → ℕ
split n ix ws i = least (λ p. reaches n ix ws i (at ix p)) (at ix) (top (at ix) (length ix)) (length ix)

-- PARTS

-- how many numbers below n pass the test
abbrev pub count : (ℕ → Bool) → ℕ → ℕ
count t n = total (λ i. pick (t i) 1 0) n

-- the part of an index: how many of the splits 1 to n - 1 are strictly below it
unfoldable pub part_at : ℕ → List ℕ → List ℕ → ℕ → ℕ
part_at n ix ws x = count (λ i. ltb (split n ix ws (suc i)) x) (n - 1)

-- the parts of all points
unfoldable pub parts_of : ℕ → List ℕ → List ℕ → List ℕ
parts_of n ix ws = list (λ p. part_at n ix ws (at ix p)) (length ix)

-- THE CALL

-- the most parts
abbrev pub top_parts : ℕ
top_parts = 1024

-- 12: no part or too many, or too many points
abbrev pub counts_unfit : ℕ → ℕ → Bool
counts_unfit n points = eqb n 0 || (ltb top_parts n || ltb top_points points)

-- of the part count, indices and weights, and what the slices of parts and of the order hold
unfoldable pub parts_tests : ℕ → List ℕ → List ℕ → List ℕ → List ℕ → List Test
parts_tests n ix ws parts order =
    test (counts_unfit n (length ix)) Counts
    ∷ test (no_points (length ix)) NoPoints
    ∷ test (lengths_off (length ix) (length ws ∷ length parts ∷ length order ∷ [])) Lengths
    ∷ test (weight_over ws) Weight ∷ []

-- a call's number, and what it leaves in the lent slices
pub record Parted : Type 0 where
  pub number : ℕ
  pub parts : List ℕ
  pub order : List ℕ

unfoldable pub parts_along : ℕ → List ℕ → List ℕ → List ℕ → List ℕ → Parted
parts_along n ix ws parts order =
    let r : ℕ = first_of (parts_tests n ix ws parts order) in
    record { number = r; parts = slice_by r (parts_of n ix ws) parts; order = slice_by r (order_of ix) order }

-- WHAT IS TO BE SHOWN

-- what split i is, whoever found it: the smallest index present that reaches
pub record IsSplit (n : ℕ) (ix ws : List ℕ) (i x : ℕ) : Type 0 where
  pub present : (p : ℕ) × (p < length ix) × (at ix p ≡ x)
  pub enough : i * weight_all ix ws ≤ n * weight_to ix ws x
  pub first : (p : ℕ) → p < length ix → i * weight_all ix ws ≤ n * weight_to ix ws (at ix p) → x ≤ at ix p

-- the weight of the points that have part k
unfoldable pub weight_in : List ℕ → List ℕ → List ℕ → ℕ → ℕ
weight_in ix ws parts k = sum_where (λ p. eqb (at parts p) k) (at ws) (length ix)

-- of the parts of n: n·w ≤ T + n·c for each, c being the heaviest weight on one index; their weights add up to T; each point has one of
-- the n; a part does not fall along the curve, and points that share an index share a part
pub record FairParts (n : ℕ) (ix ws parts : List ℕ) : Type 0 where
  pub bound : (k : ℕ) → n * weight_in ix ws parts k ≤ weight_all ix ws + n * heaviest_on ix ws
  pub adds_up : total (weight_in ix ws parts) n ≡ weight_all ix ws
  pub below : (p : ℕ) → p < length ix → at parts p < n
  pub rising : (p q : ℕ) → p < length ix → q < length ix → at ix p ≤ at ix q → at parts p ≤ at parts q
  pub shared : (p q : ℕ) → p < length ix → q < length ix → at ix p ≡ at ix q → at parts p ≡ at parts q

-- of a call: its number is exactly as its tests say, a refused call leaves the slices as they were, and any other fair parts and the order
pub record PartsDemand (n : ℕ) (ix ws parts order : List ℕ) (after : Parted) : Type 0 where
  pub number : Exactly (parts_tests n ix ws parts order) after.number
  pub untouched : 0 < after.number → (after.parts ≡ parts) × (after.order ≡ order)
  pub fair : after.number ≡ 0 → FairParts n ix ws after.parts
  pub ordered : after.number ≡ 0 → OrderList ix after.order
