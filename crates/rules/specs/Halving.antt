-- Halving a grid. Assumes nothing.
use Rattle.std.specs.Prelude.{ℕ, zero, suc, ◌+◌, ◌-◌, ◌*◌, ◌%◌, ◌^◌, Bool, true, false, ◌&&◌, List, [], ◌∷◌, get_or, set, length, replicate, leb, ltb, pos, Float}
use Rattle.std.specs.Float.{binary64}
use Rattle.std.specs.Float.Ieee.{of_bits, of_int, div, mul, sub, add, lt, to_unsigned}
use Rattle.rules.specs.Sums.{pick, total, list}
use Rattle.rules.specs.Grid.{Block, cells, coords, on, whole, edge, side, before, after, weight, line}
use Rattle.rules.specs.Refusals.{Test, first_of, grid_tests, slice_by}
use Rattle.rules.specs.declared.Halving2.{Halving2}
use Rattle.rules.specs.declared.Halving3.{Halving3}

-- LO AND HI of a weight, in f64: what an edition fixes

pub record Edition : Type 0 where
  pub lo : ℕ → ℕ
  pub hi : ℕ → ℕ

-- 1.0, 2.0, and the f64 nearest to 0.01
unfoldable pub one : Float
unfolding of_bits
one = of_bits binary64 0x3ff0_0000_0000_0000

unfoldable pub two : Float
unfolding of_bits
two = of_bits binary64 0x4000_0000_0000_0000

unfoldable pub hundredth : Float
unfolding of_bits
hundredth = of_bits binary64 0x3f84_7ae1_47ae_147b

unfoldable pub half : ℕ → Float
unfolding two of_int div
half t = div binary64 (of_int binary64 (pos t)) two

-- edition 1: (T / 2) * (1 - 0.01) with its fraction dropped, and (T / 2) * (1 + 0.01) likewise
unfoldable pub lo_of : ℕ → ℕ
unfolding one hundredth half mul sub to_unsigned
lo_of t = to_unsigned 64 (mul binary64 (half t) (sub binary64 one hundredth))

unfoldable pub hi_of : ℕ → ℕ
unfolding one hundredth half mul add to_unsigned
hi_of t = to_unsigned 64 (mul binary64 (half t) (add binary64 one hundredth))

abbrev pub edition1 : Edition
edition1 = record { lo = lo_of; hi = hi_of }

-- an f64 rounded up to a whole number, a whole one staying: one more where what is left without its fraction lies below it
unfoldable pub whole_up : Float → ℕ
unfolding pick to_unsigned of_int lt
whole_up z = pick (lt (of_int binary64 (pos (to_unsigned 64 z))) z) (to_unsigned 64 z + 1) (to_unsigned 64 z)

-- edition 2: (T / 2) * (1 - 0.01) rounded up, and hi as it was
unfoldable pub lo_up_of : ℕ → ℕ
unfolding one hundredth half mul sub whole_up
lo_up_of t = whole_up (mul binary64 (half t) (sub binary64 one hundredth))

abbrev pub edition2 : Edition
edition2 = record { lo = lo_up_of; hi = hi_of }

-- the edition of a number; a call with another number than 1 and 2 is refused, and cuts nothing
unfoldable pub edition_of : ℕ → Edition
edition_of zero = edition1
edition_of (suc zero) = edition1
edition_of (suc (suc zero)) = edition2
edition_of (suc (suc (suc n))) = edition1

-- the number of a call or a stored grid that has none
abbrev pub default_edition : ℕ
default_edition = 1

-- THE CUT of m lines of weights a 0, .., a (m - 1); P j is the sum of the first j

-- the smallest number from j on at which P reaches lo, j + n where none before does
unfoldable pub reach : (ℕ → ℕ) → ℕ → ℕ → ℕ → ℕ
reach P lo j zero = j
reach P lo j (suc n) = pick (leb lo (P j)) j (reach P lo (suc j) n)

-- j - 1 where P reaches lo and is over hi there, else j
unfoldable pub settle : (ℕ → ℕ) → ℕ → ℕ → ℕ → ℕ
settle P lo hi j = pick (leb lo (P j) && ltb hi (P j)) (j - 1) j

unfoldable pub cut_of : (ℕ → ℕ) → ℕ → ℕ → ℕ → ℕ
cut_of a m lo hi = settle (total a) lo hi (reach (total a) lo 0 (m - 1))

-- where a block is cut across an axis, in grid coordinates
unfoldable pub cut_at : Edition → List ℕ → List ℕ → ℕ → Block → ℕ
cut_at e sides ws a b =
    edge a b + cut_of (λ i. line sides ws b a (edge a b + i)) (side a b) (e.lo (weight sides ws b)) (e.hi (weight sides ws b))

-- THE TREE: node i at place i - 1, its children 2i and 2i + 1

-- the axis of the first cut of a call or a stored grid that has none: y
abbrev pub default_first : ℕ
default_first = 1

-- the mark of a node that is not cut
abbrev pub uncut : ℕ
uncut = 4294967295

-- the axis after a, of n axes in turn: x, y, x, y or x, y, z, x
unfoldable pub next_axis : ℕ → ℕ → ℕ
next_axis n a = (a + 1) % n

-- the splits s where the side is 0, else t
unfoldable pub unless_flat : ℕ → List ℕ → List ℕ → List ℕ
unless_flat zero s t = s
unless_flat (suc n) s t = t

-- the splits s, with the cuts of d levels below a block written at its node and the nodes below; a block of side 0 is not cut,
-- nor are its descendants
unfoldable pub fill : Edition → List ℕ → List ℕ → ℕ → ℕ → Block → ℕ → List ℕ → List ℕ
fill e sides ws zero a b node s = s
fill e sides ws (suc d) a b node s =
    unless_flat (side a b) s
    (fill e sides ws d (next_axis (length sides) a) (after a (cut_at e sides ws a b) b) (2 * node + 1)
    (fill e sides ws d (next_axis (length sides) a) (before a (cut_at e sides ws a b) b) (2 * node)
    (set s (node - 1) (cut_at e sides ws a b))))

unfoldable pub splits_of : Edition → List ℕ → List ℕ → ℕ → ℕ → List ℕ
splits_of e sides ws first k = fill e sides ws k first (whole sides) 1 (replicate (2 ^ k - 1) uncut)

-- THE IDS

-- the cut that stands at a node
abbrev pub cut : List ℕ → ℕ → ℕ
cut s node = get_or s (node - 1) uncut

-- left is 0, right is 1
unfoldable pub turn : Bool → ℕ
turn true = 0
turn false = 1

-- which way a node sends a cell with these coordinates: below the cut left, at or above it right
abbrev pub goes : List ℕ → ℕ → ℕ → List ℕ → ℕ
goes s a node xs = turn (ltb (on xs a) (cut s node))

-- the id that d levels from a node on make of an id, across n axes in turn
unfoldable pub walk : List ℕ → ℕ → ℕ → ℕ → ℕ → ℕ → List ℕ → ℕ
walk s n zero a node id xs = id
walk s n (suc d) a node id xs = walk s n d (next_axis n a) (2 * node + goes s a node xs) (2 * id + goes s a node xs) xs

-- the id of cell c, and of all cells
unfoldable pub id_of : List ℕ → ℕ → ℕ → List ℕ → ℕ → ℕ
id_of sides first k s c = walk s (length sides) k first 1 0 (coords sides c)

unfoldable pub ids_of : List ℕ → ℕ → ℕ → List ℕ → List ℕ
ids_of sides first k s = list (id_of sides first k s) (cells sides)

-- THE CALL

-- what describes a halving: the number of its edition, the sides, the axis of the first cut, and the levels
pub record Halving : Type 0 where
  pub edition : ℕ
  pub sides : List ℕ
  pub first : ℕ
  pub depth : ℕ

abbrev pub halving2 : Halving2 → Halving
halving2 h = record { edition = h.edition; sides = h.width ∷ h.height ∷ []; first = h.first; depth = h.depth }

abbrev pub halving3 : Halving3 → Halving
halving3 h = record { edition = h.edition; sides = h.width ∷ h.height ∷ h.layers ∷ []; first = h.first; depth = h.depth }

-- without a number of an edition and a first axis
abbrev pub of2 : ℕ → ℕ → ℕ → Halving2
of2 width height depth = record { edition = default_edition; width = width; height = height; first = default_first; depth = depth }

abbrev pub of3 : ℕ → ℕ → ℕ → ℕ → Halving3
of3 width height layers depth = record { edition = default_edition; width = width; height = height; layers = layers; first = default_first; depth = depth }

abbrev pub splits_by : Halving → List ℕ → List ℕ
splits_by h ws = splits_of (edition_of h.edition) h.sides ws h.first h.depth

abbrev pub ids_by : Halving → List ℕ → List ℕ
ids_by h ws = ids_of h.sides h.first h.depth (splits_by h ws)

-- a call's number, and what it leaves in the lent slices
pub record Halved : Type 0 where
  pub number : ℕ
  pub splits : List ℕ
  pub ids : List ℕ

-- the tests of weights, splits and ids that are lent, and the number for them
abbrev pub halving_tests : Halving → List ℕ → List ℕ → List ℕ → List Test
halving_tests h ws splits ids = grid_tests h.edition (length h.sides) h.first h.sides h.depth ws (length ids) (length splits)

abbrev pub refusal_of : Halving → List ℕ → List ℕ → List ℕ → ℕ
refusal_of h ws splits ids = first_of (halving_tests h ws splits ids)

unfoldable pub halve : Halving → List ℕ → List ℕ → List ℕ → Halved
halve h ws splits ids =
    let n : ℕ = refusal_of h ws splits ids in
    record { number = n; splits = slice_by n (splits_by h ws) splits; ids = slice_by n (ids_by h ws) ids }
