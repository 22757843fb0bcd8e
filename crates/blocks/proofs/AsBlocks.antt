-- A grid of the code has the cells of the rules, a block of the code is a block of the rules, its parts are the parts of that, and its line the one of that.
use Prim.Native.Nat.{ℕ, zero, suc, ◌+◌, ◌-◌, ◌*◌, ◌<◌, ◌≤◌, min, max}
use native.Mathlib.Omega.{arith}
use native.Mathlib.Nat.{max-eq_left, min-eq_left, min-le_right, mul-one, mul-le-mul}
use mathlib.Core.Path.{◌≡◌, refl, ap, ap₂, sym, ◌∙◌}
use mathlib.Core.Bool.{false}
use mathlib.Core.List.{List, [], ◌∷◌}
use lib.Dec.{lit≤}
use lib.ListN.{length, take, set, length-take}
use Rattle.rules.specs.Sums.{any}
use Rattle.rules.specs.Refusals.{top_side, side_unfit}
use Rattle.rules.specs.Grid as grid
use Rattle.rules.specs.Grid.{Range, Block, on}
use Rattle.laws.proofs.Any.{none_at}
use Rattle.halving_laws.proofs.Accepted.{side_fits}
use Rattle.halving_laws.proofs.Nested.{thin}
use Rattle.blocks.specs.Blocks.{across, sides_of, from, ranges, as_block, slab, left_part, right_part}
use Rattle.blocks.specs.declared.grid.Grid.{Grid}
use Rattle.blocks.specs.declared.block.SubGrid.{SubGrid}

-- every number is that of an axis, and one below 3 its own
pub across_lt : (a : ℕ) → across a < 3
across_lt a = omega (arith, min-le_right a 2)

pub across_is : (a : ℕ) → a < 3 → across a ≡ a
across_is a h = min-eq_left (omega arith)

-- three numbers
pub three : (xs : List ℕ) → length xs ≡ 3 → xs ≡ on xs 0 ∷ on xs 1 ∷ on xs 2 ∷ []
three [] e = absurd (omega arith)
three (x ∷ []) e = absurd (omega arith)
three (x ∷ y ∷ []) e = absurd (omega arith)
three (x ∷ y ∷ z ∷ []) e = refl
three (x ∷ y ∷ z ∷ u ∷ xs) e = absurd (omega arith)

-- the cells of a grid, its layers counted
cells_on : (n : ℕ) (x y z : ℕ) → (2 ≤ n) × (n ≤ 3) → (n < 3 → z ≡ 1) → grid.cells (take n (x ∷ y ∷ z ∷ [])) ≡ x * (y * z)
unfolding grid.cells
cells_on zero x y z f l = absurd (omega arith)
cells_on (suc zero) x y z f l = absurd (omega arith)
cells_on (suc (suc zero)) x y z f l = rw (l (omega arith))
cells_on (suc (suc (suc zero))) x y z f l = ap (λ (n : ℕ). x * (y * n)) (mul-one z)
cells_on (suc (suc (suc (suc n)))) x y z f l = absurd (omega arith)

pub cells_are : (g : Grid) → grid.cells (sides_of g) ≡ on g.sides 0 * (on g.sides 1 * on g.sides 2)
cells_are g = ap (λ (s : List ℕ). grid.cells (take g.axes s)) (three g.sides g.three) ∙ cells_on g.axes _ _ _ g.axes_fit g.one_layer

-- sides of which none is unfit, its layers counted
sides_on : (n : ℕ) (x y z : ℕ) → (2 ≤ n) × (n ≤ 3) → (n < 3 → z ≡ 1) → any side_unfit (take n (x ∷ y ∷ z ∷ [])) ≡ false
    → ((1 ≤ x) × (x ≤ top_side)) × ((1 ≤ y) × (y ≤ top_side)) × ((1 ≤ z) × (z ≤ top_side))
sides_on zero x y z f l e = absurd (omega arith)
sides_on (suc zero) x y z f l e = absurd (omega arith)
sides_on (suc (suc zero)) x y z f l e =
    let fit = none_at side_unfit 0 (x ∷ y ∷ []) e in
    (side_fits x (fit 0 (lit≤ tt)), side_fits y (fit 1 (lit≤ tt)), (omega (arith, l (omega arith)), omega (arith, l (omega arith))))
sides_on (suc (suc (suc zero))) x y z f l e =
    let fit = none_at side_unfit 0 (x ∷ y ∷ z ∷ []) e in
    (side_fits x (fit 0 (lit≤ tt)), side_fits y (fit 1 (lit≤ tt)), side_fits z (fit 2 (lit≤ tt)))
sides_on (suc (suc (suc (suc n)))) x y z f l e = absurd (omega arith)

pub sides_fit : (g : Grid) → any side_unfit (sides_of g) ≡ false
    → ((1 ≤ on g.sides 0) × (on g.sides 0 ≤ top_side)) × ((1 ≤ on g.sides 1) × (on g.sides 1 ≤ top_side)) × ((1 ≤ on g.sides 2) × (on g.sides 2 ≤ top_side))
sides_fit g e = sides_on g.axes _ _ _ g.axes_fit g.one_layer (rw (three g.sides g.three) at e)

-- and how many cells they make
pub few_cells : (g : Grid) → any side_unfit (sides_of g) ≡ false
    → (on g.sides 1 * on g.sides 2 ≤ 1048576) × (on g.sides 0 * (on g.sides 1 * on g.sides 2) ≤ 1073741824)
few_cells g e =
    let s = sides_fit g e in
    let plane = mul-le-mul s.1.1 s.2.1 in
    (plane, mul-le-mul s.0.1 plane)

-- the rules count as many axes
pub axes_are : (g : Grid) → length (sides_of g) ≡ g.axes
axes_are g = omega (arith, length-take g.axes g.sides)

pub back : (x w : ℕ) → (x + w) - x ≡ w
back x w = omega arith

-- RANGES: side, low edge, parts and line on an axis

low_range : (x w c : ℕ) → c < w → from x c ≡ record { low = x; high = min (x + c) (x + w) }
low_range x w c h = ap (λ (k : ℕ). record { low = x; high = k }) (sym (min-eq_left (omega arith)))

high_range : (x w c : ℕ) → c < w → from (x + c) (w - c) ≡ record { low = max (x + c) x; high = x + w }
high_range x w c h = ap₂ (λ (j k : ℕ). record { low = j; high = k }) (sym (max-eq_left (omega arith))) (omega arith)

thin_range : (x w c : ℕ) → c < w → from (x + c) 1 ≡ record { low = max (x + c) x; high = min (suc (x + c)) (x + w) }
thin_range x w c h = ap₂ (λ (j k : ℕ). record { low = j; high = k }) (sym (max-eq_left (omega arith))) (omega arith)

range_side : (a : ℕ) (xs ss : List ℕ) → length xs ≡ length ss → grid.side a (ranges xs ss) ≡ on ss a
unfolding grid.side ranges
range_side a [] [] e = refl
range_side a [] (s ∷ ss) e = absurd (omega arith)
range_side a (x ∷ xs) [] e = absurd (omega arith)
range_side zero (x ∷ xs) (s ∷ ss) e = back x s
range_side (suc a) (x ∷ xs) (s ∷ ss) e = range_side a xs ss (omega arith)

range_edge : (a : ℕ) (xs ss : List ℕ) → length xs ≡ length ss → grid.edge a (ranges xs ss) ≡ on xs a
unfolding grid.edge ranges
range_edge a [] [] e = refl
range_edge a [] (s ∷ ss) e = absurd (omega arith)
range_edge a (x ∷ xs) [] e = absurd (omega arith)
range_edge zero (x ∷ xs) (s ∷ ss) e = refl
range_edge (suc a) (x ∷ xs) (s ∷ ss) e = range_edge a xs ss (omega arith)

range_left : (a c : ℕ) (xs ss : List ℕ) → length xs ≡ length ss → c < on ss a → ranges xs (set ss a c) ≡ grid.before a (on xs a + c) (ranges xs ss)
unfolding grid.before ranges
range_left a c [] [] e l = absurd (omega arith)
range_left a c [] (s ∷ ss) e l = absurd (omega arith)
range_left a c (x ∷ xs) [] e l = absurd (omega arith)
range_left zero c (x ∷ xs) (s ∷ ss) e l = ap (λ (r : Range). r ∷ ranges xs ss) (low_range x s c l)
range_left (suc a) c (x ∷ xs) (s ∷ ss) e l = ap (λ (rs : Block). from x s ∷ rs) (range_left a c xs ss (omega arith) l)

range_right : (a c : ℕ) (xs ss : List ℕ) → length xs ≡ length ss → c < on ss a
    → ranges (set xs a (on xs a + c)) (set ss a (on ss a - c)) ≡ grid.after a (on xs a + c) (ranges xs ss)
unfolding grid.after ranges
range_right a c [] [] e l = absurd (omega arith)
range_right a c [] (s ∷ ss) e l = absurd (omega arith)
range_right a c (x ∷ xs) [] e l = absurd (omega arith)
range_right zero c (x ∷ xs) (s ∷ ss) e l = ap (λ (r : Range). r ∷ ranges xs ss) (high_range x s c l)
range_right (suc a) c (x ∷ xs) (s ∷ ss) e l = ap (λ (rs : Block). from x s ∷ rs) (range_right a c xs ss (omega arith) l)

range_thin : (a c : ℕ) (xs ss : List ℕ) → length xs ≡ length ss → c < on ss a
    → ranges (set xs a (on xs a + c)) (set ss a 1) ≡ thin a (on xs a + c) (ranges xs ss)
unfolding thin grid.before grid.after ranges
range_thin a c [] [] e l = absurd (omega arith)
range_thin a c [] (s ∷ ss) e l = absurd (omega arith)
range_thin a c (x ∷ xs) [] e l = absurd (omega arith)
range_thin zero c (x ∷ xs) (s ∷ ss) e l = ap (λ (r : Range). r ∷ ranges xs ss) (thin_range x s c l)
range_thin (suc a) c (x ∷ xs) (s ∷ ss) e l = ap (λ (rs : Block). from x s ∷ rs) (range_thin a c xs ss (omega arith) l)

-- OF SO MANY AXES

taken_side : (a n : ℕ) (b : Block) → a < n → grid.side a (take n b) ≡ grid.side a b
unfolding grid.side
taken_side a zero b l = absurd (omega arith)
taken_side a (suc n) [] l = refl
taken_side zero (suc n) (r ∷ b) l = refl
taken_side (suc a) (suc n) (r ∷ b) l = taken_side a n b (omega arith)

taken_edge : (a n : ℕ) (b : Block) → a < n → grid.edge a (take n b) ≡ grid.edge a b
unfolding grid.edge
taken_edge a zero b l = absurd (omega arith)
taken_edge a (suc n) [] l = refl
taken_edge zero (suc n) (r ∷ b) l = refl
taken_edge (suc a) (suc n) (r ∷ b) l = taken_edge a n b (omega arith)

taken_before : (a c n : ℕ) (b : Block) → take n (grid.before a c b) ≡ grid.before a c (take n b)
unfolding grid.before
taken_before a c zero b = refl
taken_before a c (suc n) [] = refl
taken_before zero c (suc n) (r ∷ b) = refl
taken_before (suc a) c (suc n) (r ∷ b) = ap (λ (rs : Block). r ∷ rs) (taken_before a c n b)

taken_after : (a c n : ℕ) (b : Block) → take n (grid.after a c b) ≡ grid.after a c (take n b)
unfolding grid.after
taken_after a c zero b = refl
taken_after a c (suc n) [] = refl
taken_after zero c (suc n) (r ∷ b) = refl
taken_after (suc a) c (suc n) (r ∷ b) = ap (λ (rs : Block). r ∷ rs) (taken_after a c n b)

taken_thin : (a c n : ℕ) (b : Block) → take n (thin a c b) ≡ thin a c (take n b)
unfolding thin
taken_thin a c n b = taken_after a c n (grid.before a (suc c) b) ∙ ap (grid.after a c) (taken_before a (suc c) n b)

length_ranges : (xs ss : List ℕ) → length xs ≡ length ss → length (ranges xs ss) ≡ length ss
unfolding ranges
length_ranges [] [] e = refl
length_ranges [] (s ∷ ss) e = absurd (omega arith)
length_ranges (x ∷ xs) [] e = absurd (omega arith)
length_ranges (x ∷ xs) (s ∷ ss) e = ap (λ (n : ℕ). suc n) (length_ranges xs ss (omega arith))

-- BLOCKS

module _ (n a : ℕ) (b : SubGrid) (e : length b.low ≡ length b.sides) where
  pub block_side : a < n → grid.side a (as_block n b) ≡ on b.sides a
  block_side l = taken_side a n (ranges b.low b.sides) l ∙ range_side a b.low b.sides e

  pub block_edge : a < n → grid.edge a (as_block n b) ≡ on b.low a
  block_edge l = taken_edge a n (ranges b.low b.sides) l ∙ range_edge a b.low b.sides e

  pub block_left : (at : ℕ) → at < on b.sides a → as_block n (left_part a b at) ≡ grid.before a (on b.low a + at) (as_block n b)
  block_left at l = ap (take n) (range_left a at b.low b.sides e l) ∙ taken_before a _ n (ranges b.low b.sides)

  pub block_right : (at : ℕ) → at < on b.sides a → as_block n (right_part a b at) ≡ grid.after a (on b.low a + at) (as_block n b)
  block_right at l = ap (take n) (range_right a at b.low b.sides e l) ∙ taken_after a _ n (ranges b.low b.sides)

  pub block_thin : (i : ℕ) → i < on b.sides a → as_block n (slab a b i) ≡ thin a (on b.low a + i) (as_block n b)
  block_thin i l = ap (take n) (range_thin a i b.low b.sides e l) ∙ taken_thin a _ n (ranges b.low b.sides)

  pub no_below : a < n → n ≤ length b.sides → a < length (as_block n b)
  no_below l h = omega (arith, length-take n (ranges b.low b.sides), length_ranges b.low b.sides e)
