-- The weight of a block is the sum of its solid, and the solids of its lines can be summed.
use Prim.Native.Nat.{ℕ, zero, suc, ◌+◌, ◌-◌, ◌*◌, ◌≤◌, ◌<◌}
use native.Mathlib.Omega.{arith}
use native.Mathlib.Nat.{mul-le-mul_left, mul-le-mul, zero-add}
use mathlib.Core.Path.{◌≡◌, ap, sym, ◌∙◌}
use mathlib.Core.List.{List, [], ◌∷◌}
use lib.Dec.{lit≤}
use lib.ListN.{length, take, get_or, set, drop, length-set}
use lib.Seq.{take_at}
use Rattle.rules.specs.Sums.{total, list}
use Rattle.rules.specs.Refusals.{top_side}
use Rattle.laws.proofs.Lists.{length_list, list_ext, get_or_list}
use Rattle.rules.specs.Grid.{Range, on, weight}
use Rattle.laws.proofs.Totals.{total_ext}
use Rattle.halving_laws.proofs.Reach.{cut_ext}
use Rattle.halving_laws.proofs.Nested.{nest, nest_end}
use Rattle.lines.specs.Stacks.{run_sum, sheet_sum, solid_sum, line_of, SolidFits, LinesFit}
use Rattle.lines.specs.declared.Stack.{Stack}
use Rattle.lines.proofs.Bounds.{solid_light}
use Rattle.median.specs.Median.{line_at, LinesLight, CutIs}
use Rattle.blocks.specs.Blocks.{sides_of, from, ranges, as_block, start, strides, slab, lines, left_part}
use Rattle.blocks.specs.declared.grid.Grid.{Grid}
use Rattle.blocks.specs.declared.block.SubGrid.{SubGrid}
use Rattle.blocks.proofs.AsBlocks.{three, back}
use Rattle.cuts.specs.Sums.{stack_of, solid, line_weight, filled, Readable, Lies}

-- Weights as sums of solids.

-- how many numbers a range has
size : Range → ℕ
size r = r.high - r.low

module _ (ws : List ℕ) (w h d : ℕ) where
  -- the stack of a block with these sides
  abbrev sized : ℕ → ℕ → ℕ → Stack
  sized p q r = record { width = p; row = w; height = q; layer = w * h; layers = r }

  index_in_space : (x y z i j k : ℕ) → (x + i) + w * ((y + j) + h * ((z + k) + d * 0)) ≡ (((x + w * (y + h * z)) + w * h * k) + w * j) + i
  index_in_space x y z i j k = omega arith

  index_in_plane : (x y i j : ℕ) → (x + i) + w * ((y + j) + h * 0) ≡ (((x + w * (y + h * 0)) + w * h * 0) + w * j) + i
  index_in_plane x y i j = omega arith

  in_space : (x y z : Range) → x.high ≤ w → y.high ≤ h → z.high ≤ d
      → weight (w ∷ h ∷ d ∷ []) ws (x ∷ y ∷ z ∷ []) ≡ solid_sum ws (x.low + w * (y.low + h * z.low)) (sized (size x) (size y) (size z)) (size z)
  unfolding weight solid_sum sheet_sum run_sum size
  in_space x y z p q r =
      nest w (h ∷ d ∷ []) (λ c. get_or ws c 0) x (y ∷ z ∷ []) p
      ∙ nest h (d ∷ []) _ y (z ∷ []) q
      ∙ nest d [] _ z [] r
      ∙ nest_end _
      ∙ total_ext _ _ (size z) (λ k a. total_ext _ _ (size y) (λ j b. total_ext _ _ (size x)
      (λ i c. ap (λ (n : ℕ). get_or ws n 0) (index_in_space x.low y.low z.low i j k))))

  in_plane : (x y : Range) → x.high ≤ w → y.high ≤ h
      → weight (w ∷ h ∷ []) ws (x ∷ y ∷ []) ≡ solid_sum ws (x.low + w * (y.low + h * 0)) (sized (size x) (size y) 1) 1
  unfolding weight solid_sum sheet_sum run_sum size total
  in_plane x y p q =
      nest w (h ∷ []) (λ c. get_or ws c 0) x (y ∷ []) p
      ∙ nest h [] _ y [] q
      ∙ nest_end _
      ∙ total_ext _ _ (size y) (λ j b. total_ext _ _ (size x) (λ i c. ap (λ (n : ℕ). get_or ws n 0) (index_in_plane x.low y.low i j)))
      ∙ sym (zero-add _)

  -- of two axes or three
  on_axes : (n x y z p q r : ℕ) → (2 ≤ n) × (n ≤ 3) → (n < 3 → (d ≡ 1) × (r ≡ 1)) → x + p ≤ w → y + q ≤ h → z + r ≤ d
      → weight (take n (w ∷ h ∷ d ∷ [])) ws (take n (ranges (x ∷ y ∷ z ∷ []) (p ∷ q ∷ r ∷ []))) ≡ solid_sum ws (x + w * (y + h * z)) (sized p q r) r
  unfolding ranges size
  on_axes zero x y z p q r f l a b c = absurd (omega arith)
  on_axes (suc zero) x y z p q r f l a b c = absurd (omega arith)
  on_axes (suc (suc zero)) x y z p q r f l a b c =
      let t = l (omega arith) in
      let bottom : z ≡ 0 = omega (arith, t) in
      in_plane (from x p) (from y q) a b ∙ rw (back x p, back y q, bottom, t.1)
  on_axes (suc (suc (suc zero))) x y z p q r f l a b c = in_space (from x p) (from y q) (from z r) a b c ∙ rw (back x p, back y q, back z r)
  on_axes (suc (suc (suc (suc n)))) x y z p q r f l a b c = absurd (omega arith)

pub weight_is_solid : (g : Grid) (ws : List ℕ) (b : SubGrid) → Lies g b → (g.axes < 3 → on b.sides 2 ≡ 1) → weight (sides_of g) ws (as_block g.axes b) ≡ solid g ws b
unfolding solid
weight_is_solid g ws b r f =
    let e : weight (sides_of g) ws (as_block g.axes b)
    ≡ weight (take g.axes (on g.sides 0 ∷ on g.sides 1 ∷ on g.sides 2 ∷ [])) ws
    (take g.axes (ranges (on b.low 0 ∷ on b.low 1 ∷ on b.low 2 ∷ []) (on b.sides 0 ∷ on b.sides 1 ∷ on b.sides 2 ∷ []))) =
    rw (← three g.sides g.three, ← three b.low r.low_long, ← three b.sides r.sides_long) in
    e
    ∙ on_axes ws _ _ _ g.axes _ _ _ _ _ _ g.axes_fit (λ l. (g.one_layer l, f l)) (r.inside 0 (lit≤ tt)) (r.inside 1 (lit≤ tt)) (r.inside 2 (lit≤ tt))

-- Where blocks lie.

-- lines on an axis reach no further than the block on any
reach_of_lines : (low sides : List ℕ) (a k i n : ℕ) → length low ≡ length sides → i + n ≤ on sides a
    → on (set low a (on low a + i)) k + on (set sides a n) k ≤ on low k + on sides k
reach_of_lines [] [] a k i n e l = omega arith
reach_of_lines [] (s ∷ sides) a k i n e l = absurd (omega arith)
reach_of_lines (x ∷ low) [] a k i n e l = absurd (omega arith)
reach_of_lines (x ∷ low) (s ∷ sides) zero zero i n e l = omega arith
reach_of_lines (x ∷ low) (s ∷ sides) zero (suc k) i n e l = omega arith
reach_of_lines (x ∷ low) (s ∷ sides) (suc a) zero i n e l = omega arith
reach_of_lines (x ∷ low) (s ∷ sides) (suc a) (suc k) i n e l = reach_of_lines low sides a k i n (omega arith) l

shorter : (sides : List ℕ) (a k n : ℕ) → n ≤ on sides a → on (set sides a n) k ≤ on sides k
shorter [] a k n l = omega arith
shorter (s ∷ sides) zero zero n l = l
shorter (s ∷ sides) zero (suc k) n l = omega arith
shorter (s ∷ sides) (suc a) zero n l = omega arith
shorter (s ∷ sides) (suc a) (suc k) n l = shorter sides a k n l

module _ {g : Grid} {b : SubGrid} (r : Lies g b) where
  pub lies_lines : (a i n : ℕ) → i + n ≤ on b.sides a → Lies g (lines a b i n)
  lies_lines a i n l = record {
    low_long = length-set b.low a _ ∙ r.low_long;
    sides_long = length-set b.sides a n ∙ r.sides_long;
    inside = λ k h. omega (arith, r.inside k h, reach_of_lines b.low b.sides a k i n (r.low_long ∙ sym r.sides_long) l);
  }

  pub lies_left : (a at : ℕ) → at ≤ on b.sides a → Lies g (left_part a b at)
  lies_left a at l = record {
    low_long = r.low_long;
    sides_long = length-set b.sides a at ∙ r.sides_long;
    inside = λ k h. omega (arith, r.inside k h, shorter b.sides a k at l);
  }

-- What the sums ask.

record Products (W H D : ℕ) : Type 0 where
  two : W * H ≤ 1048576
  three : W * (H * D) ≤ 1073741824

products : {g : Grid} {ws : List ℕ} → Readable g ws → Products (on g.sides 0) (on g.sides 1) (on g.sides 2)
products r =
    let w = r.sides_fit 0 (lit≤ tt) in
    let h = r.sides_fit 1 (lit≤ tt) in
    record { two = mul-le-mul w h; three = mul-le-mul w (mul-le-mul h (r.sides_fit 2 (lit≤ tt))) }

-- a line before the end of a side
upto : (z k d : ℕ) {D : ℕ} → z + d ≤ D → k < d → (z + k) + 1 ≤ D
upto z k d h l = omega arith

module _ {g : Grid} {ws : List ℕ} {b : SubGrid} (f : Readable g ws) (r : Lies g b) where
  wide : on b.low 0 + on b.sides 0 ≤ on g.sides 0
  wide = r.inside 0 (lit≤ tt)

  tall : on b.low 1 + on b.sides 1 ≤ on g.sides 1
  tall = r.inside 1 (lit≤ tt)

  deep : on b.low 2 + on b.sides 2 ≤ on g.sides 2
  deep = r.inside 2 (lit≤ tt)

  width_fits : on g.sides 0 ≤ top_side
  width_fits = f.sides_fit 0 (lit≤ tt)

  height_fits : on g.sides 1 ≤ top_side
  height_fits = f.sides_fit 1 (lit≤ tt)

  layers_fit : on g.sides 2 ≤ top_side
  layers_fit = f.sides_fit 2 (lit≤ tt)

  height_small : on g.sides 1 * on b.low 2 ≤ 1048576
  height_small = mul-le-mul {m₂ = 1024} height_fits (omega (arith, deep, layers_fit))

  corner_small : on g.sides 0 * (on b.low 1 + on g.sides 1 * on b.low 2) ≤ 1074790400
  corner_small = mul-le-mul {m₂ = 1049600} width_fits (omega (arith, tall, height_fits, height_small))

  pub corner_fits : ((on g.sides 1 * on b.low 2 < 4294967296) × (on b.low 1 + on g.sides 1 * on b.low 2 < 4294967296))
      × ((on g.sides 0 * (on b.low 1 + on g.sides 1 * on b.low 2) < 4294967296) × (start g b < 4294967296))
  corner_fits = (
    (omega (arith, height_small), omega (arith, tall, height_fits, height_small)),
    (omega (arith, corner_small), omega (arith, wide, width_fits, corner_small)),
  )

  pub solid_fits : SolidFits ws (start g b) (stack_of g b)
  solid_fits =
      let m = products f in
      let rows = mul-le-mul_left (on g.sides 0) tall in
      let layers = mul-le-mul_left (on g.sides 0) (mul-le-mul_left (on g.sides 1) deep) in
      record {
        short = omega (arith, deep, layers_fit);
        reach = omega (arith, wide, width_fits, m.two, m.three);
        each = λ k l. let deeper = mul-le-mul_left (on g.sides 0) (mul-le-mul_left (on g.sides 1) (upto (on b.low 2) k (on b.sides 2) deep l)) in
            record {
              short = omega (arith, tall, height_fits);
              reach = omega (arith, wide, width_fits, m.two, m.three);
              each = λ j i. let lower = mul-le-mul_left (on g.sides 0) (upto (on b.low 1) j (on b.sides 1) tall i) in
                  record { short = omega (arith, wide, width_fits); reach = omega (arith, wide, f.long) };
            };
      }

-- The lines of a block.

-- where line i begins
begins : (w h x y z a i : ℕ) → a < 3
    → (x + w * (y + h * z)) + on (1 ∷ w ∷ w * h ∷ []) a * i
    ≡ on (set (x ∷ y ∷ z ∷ []) a (on (x ∷ y ∷ z ∷ []) a + i)) 0
    + w * (on (set (x ∷ y ∷ z ∷ []) a (on (x ∷ y ∷ z ∷ []) a + i)) 1 + h * on (set (x ∷ y ∷ z ∷ []) a (on (x ∷ y ∷ z ∷ []) a + i)) 2)
begins w h x y z zero i l = omega arith
begins w h x y z (suc zero) i l = omega arith
begins w h x y z (suc (suc zero)) i l = omega arith
begins w h x y z (suc (suc (suc a))) i l = absurd (omega arith)

start_slab : (g : Grid) (a : ℕ) (b : SubGrid) (i : ℕ) → length b.low ≡ 3 → a < 3 → start g b + on (strides g) a * i ≡ start g (slab a b i)
start_slab g a b i e l = rw (three b.low e) (begins (on g.sides 0) (on g.sides 1) _ _ _ a i l)

-- a line as the code sums it: all lines have the sides of the first
abbrev pub line_stack : Grid → ℕ → SubGrid → Stack
line_stack g a b = stack_of g (left_part a b 1)

line_sum_is_solid : (g : Grid) (ws : List ℕ) (a : ℕ) (b : SubGrid) (i : ℕ) → length b.low ≡ 3 → a < 3
    → line_of ws (start g b) (on (strides g) a) (line_stack g a b) i ≡ line_weight g ws a b i
unfolding solid
line_sum_is_solid g ws a b i e l = rw (start_slab g a b i e l)

filled_at : (g : Grid) (ws : List ℕ) (a : ℕ) (b : SubGrid) (i : ℕ) → i < on b.sides a → line_at (list (line_weight g ws a b) (on b.sides a)) i ≡ line_weight g ws a b i
filled_at g ws a b i l = get_or_list (line_weight g ws a b) (on b.sides a) i 0 l

-- the sums that are filled
pub first_sums : (g : Grid) (ws : List ℕ) (a : ℕ) (b : SubGrid) (sums : List ℕ) → take (on b.sides a) (filled g ws a b sums) ≡ list (line_weight g ws a b) (on b.sides a)
first_sums g ws a b sums = take_at (list (line_weight g ws a b) (on b.sides a)) (drop (on b.sides a) sums) (on b.sides a) (length_list (line_weight g ws a b) (on b.sides a))

module _ {g : Grid} {ws : List ℕ} {b : SubGrid} (f : Readable g ws) (r : Lies g b) (a : ℕ) (h : a < 3) where
  pub side_fits : on b.sides a ≤ top_side
  side_fits = omega (arith, r.inside a h, f.sides_fit a h)

  stride_fits : on (strides g) a * on b.sides a ≤ 1073741824
  stride_fits = strided a h side_fits
    where
      strided : (a : ℕ) → a < 3 → on b.sides a ≤ top_side → on (strides g) a * on b.sides a ≤ 1073741824
      strided zero h l = omega arith
      strided (suc zero) h l = let e : on g.sides 0 * on b.sides 1 ≤ 1048576 = mul-le-mul (width_fits f r) l in omega arith
      strided (suc (suc zero)) h l = mul-le-mul (products f).two l
      strided (suc (suc (suc a))) h l = absurd (omega arith)

  pub lines_fit : LinesFit ws (start g b) (on (strides g) a) (on b.sides a) (line_stack g a b)
  lines_fit = record {
    short = side_fits;
    reach = omega (arith, stride_fits, corner_small f r, wide f r, width_fits f r);
    each = λ i l. rw (start_slab g a b i r.low_long h) (solid_fits f (lies_lines r a i 1 (omega arith)));
  }

  pub line_sums_are : list (line_of ws (start g b) (on (strides g) a) (line_stack g a b)) (on b.sides a) ≡ list (line_weight g ws a b) (on b.sides a)
  line_sums_are = list_ext _ _ (on b.sides a) (λ i l. line_sum_is_solid g ws a b i r.low_long h)

  -- no line is too heavy for the median
  pub lines_light : LinesLight (list (line_weight g ws a b) (on b.sides a))
  unfolding LinesLight
  lines_light i l =
      let inside : i < on b.sides a = omega (arith, length_list (line_weight g ws a b) (on b.sides a)) in
      let each = lines_fit.each i inside in
      omega (
        arith,
        filled_at g ws a b i inside,
        line_sum_is_solid g ws a b i r.low_long h,
        solid_light ws f.light _ _ _ each.each,
        each.short,
      )

-- the median of the filled sums is the cut of the lines
pub cut_of_sums : (g : Grid) (ws : List ℕ) (a : ℕ) (b : SubGrid) (lo hi : ℕ) {at l : ℕ}
    → CutIs (line_at (list (line_weight g ws a b) (on b.sides a))) (on b.sides a) lo hi at l → CutIs (line_weight g ws a b) (on b.sides a) lo hi at l
cut_of_sums g ws a b lo hi {at} {l} c =
    let lines : List ℕ = list (line_weight g ws a b) (on b.sides a) in
    record {
      place = c.place ∙ cut_ext (line_at lines) _ (on b.sides a) lo hi (filled_at g ws a b);
      weight = c.weight ∙ total_ext (line_at lines) _ at (λ i q. filled_at g ws a b i (omega (arith, c.inside)));
      inside = c.inside;
    }
