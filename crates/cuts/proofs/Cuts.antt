-- The cut of a part's lines is the rule's cut of the block, and it leaves two sound parts.
use Prim.Native.Nat.{ℕ, ◌+◌, ◌-◌, ◌≤◌, ◌<◌}
use native.Mathlib.Omega.{arith}
use mathlib.Core.Path.{◌≡◌, ap, sym, ◌∙◌}
use mathlib.Core.List.{List}
use lib.ListN.{length, take, set}
use Rattle.std.proofs.Common.{get_or-set_other, length-take-le}
use Rattle.rules.specs.Sums.{total, list}
use Rattle.rules.specs.Refusals.{top_side}
use Rattle.rules.specs.Grid.{on, weight, line}
use Rattle.rules.specs.Halving.{edition_of, hi_of, cut_at}
use Rattle.laws.proofs.Lists.{length_list}
use Rattle.laws.proofs.Totals.{total_ext}
use Rattle.halving_laws.proofs.Editions.{hi_stays}
use Rattle.halving_laws.proofs.Reach.{cut_ext, cut_inside}
use Rattle.halving_laws.proofs.Nested.{line_is_thin}
use Rattle.halving_laws.proofs.Weights.{left_plus_right, lines_before}
use Rattle.median.specs.Median.{line_at, CutIs}
use Rattle.blocks.specs.Blocks.{sides_of, as_block, slab, left_part, right_part}
use Rattle.blocks.specs.declared.grid.Grid.{Grid}
use Rattle.blocks.specs.declared.block.SubGrid.{SubGrid}
use Rattle.blocks.proofs.AsBlocks.{block_side, block_edge, block_left, block_right, block_thin, no_below}
use Rattle.cuts.specs.Sums.{line_weight, Readable, Lies}
use Rattle.cuts.specs.Cuts.{cut_line, cut_into, Sound}
use Rattle.cuts.specs.declared.cutting.Part.{Part}
use Rattle.cuts.proofs.Solids.{weight_is_solid, lies_lines, lies_left, cut_of_sums}

module _ (e : ℕ) {g : Grid} {ws : List ℕ} {p : Part} (r : Sound g ws p) (a : ℕ) (h : a < g.axes) where
  -- a cut across an axis of the grid leaves one layer where there are two axes
  layer_stays : (n : ℕ) → g.axes < 3 → on (set p.block.sides a n) 2 ≡ 1
  layer_stays n l = let other : 2 ≡ a → ⊥ = λ q. omega arith in rw get_or-set_other (r.one_layer l)

  as_long : length p.block.low ≡ length p.block.sides
  as_long = r.lies.low_long ∙ sym r.lies.sides_long

  -- line i of the block is the solid of slab i
  line_is_solid : (i : ℕ) → i < on p.block.sides a → line (sides_of g) ws (as_block g.axes p.block) a (on p.block.low a + i) ≡ line_weight g ws a p.block i
  line_is_solid i l =
      line_is_thin (sides_of g) ws (as_block g.axes p.block) a (on p.block.low a + i) (no_below g.axes a p.block as_long h (omega (arith, g.axes_fit, r.lies.sides_long)))
      ∙ ap (weight (sides_of g) ws) (sym (block_thin g.axes a p.block as_long i l))
      ∙ weight_is_solid g ws (slab a p.block i) (lies_lines r.lies a i 1 (omega arith)) (layer_stays 1)

  -- the cut of the lines is the rule's cut of the block
  pub cut_on : on p.block.low a + cut_line e g ws a p.block p.total ≡ cut_at (edition_of e) (sides_of g) ws a (as_block g.axes p.block)
  unfolding cut_at
  cut_on =
      let f : ℕ → ℕ = λ i. line (sides_of g) ws (as_block g.axes p.block) a (on p.block.low a + i) in
      rw (block_edge g.axes a p.block as_long h, block_side g.axes a p.block as_long h, ← r.weight)
      (ap (λ (k : ℕ). on p.block.low a + k) (sym (cut_ext f _ (on p.block.sides a) ((edition_of e).lo p.total) ((edition_of e).hi p.total) line_is_solid)))

  module _ (some : 0 < on p.block.sides a) where
    pub line_inside : cut_line e g ws a p.block p.total < on p.block.sides a
    line_inside = cut_inside (line_weight g ws a p.block) (on p.block.sides a) ((edition_of e).lo p.total) ((edition_of e).hi p.total) some

    first_weighs : total (line_weight g ws a p.block) (cut_line e g ws a p.block p.total)
        ≡ weight (sides_of g) ws (as_block g.axes (left_part a p.block (cut_line e g ws a p.block p.total)))
    first_weighs =
        let at : ℕ = cut_line e g ws a p.block p.total in
        let f : ℕ → ℕ = λ i. line (sides_of g) ws (as_block g.axes p.block) a (on p.block.low a + i) in
        sym (total_ext f _ at (λ i q. line_is_solid i (omega (arith, line_inside))))
        ∙ (rw (block_edge g.axes a p.block as_long h) at (lines_before (sides_of g) ws a (as_block g.axes p.block) at (no_below g.axes a p.block as_long h (omega (arith, g.axes_fit, r.lies.sides_long)))))
        ∙ ap (weight (sides_of g) ws) (sym (block_left g.axes a p.block as_long at line_inside))

    parts_add_up : total (line_weight g ws a p.block) (cut_line e g ws a p.block p.total)
        + weight (sides_of g) ws (as_block g.axes (right_part a p.block (cut_line e g ws a p.block p.total))) ≡ p.total
    parts_add_up =
        let at : ℕ = cut_line e g ws a p.block p.total in
        rw (block_right g.axes a p.block as_long at line_inside, first_weighs, block_left g.axes a p.block as_long at line_inside)
        (left_plus_right (sides_of g) ws a (on p.block.low a + at) (as_block g.axes p.block) (no_below g.axes a p.block as_long h (omega (arith, g.axes_fit, r.lies.sides_long))))
        ∙ sym r.weight

    -- what a cut leaves

    left_at_most : total (line_weight g ws a p.block) (cut_line e g ws a p.block p.total) ≤ p.total
    left_at_most = omega (arith, parts_add_up)

    pub first_sound : Sound g ws (cut_into e g ws a p).first
    unfolding cut_into
    first_sound = record {
      lies = lies_left r.lies a (cut_line e g ws a p.block p.total) (omega (arith, line_inside));
      one_layer = layer_stays _;
      few = omega (arith, r.few, parts_add_up);
      weight = first_weighs;
    }

    pub second_sound : Sound g ws (cut_into e g ws a p).second
    unfolding cut_into
    second_sound = record {
      lies = lies_lines r.lies a (cut_line e g ws a p.block p.total) (on p.block.sides a - cut_line e g ws a p.block p.total) (omega (arith, line_inside));
      one_layer = layer_stays _;
      few = omega (arith, r.few);
      weight = omega (arith, parts_add_up);
    }

-- as many sums as there are lines hold their weights
pub lines_summed : (f : ℕ → ℕ) {n m : ℕ} (sums : List ℕ) {lines : List ℕ} → length sums ≡ top_side → n ≤ top_side → m ≡ n → lines ≡ list f (length (take m sums)) → lines ≡ list f n
lines_summed f {n} {m} sums l h e s = let long : length (take m sums) ≡ n = omega (arith, length-take-le m sums (omega arith)) in rw (s, long)

-- the median of the lines' weights is their cut
pub cut_made : (e : ℕ) (g : Grid) (ws : List ℕ) (p : Part) (a : ℕ) {lines : List ℕ} {lo hi at left : ℕ}
    → lines ≡ list (line_weight g ws a p.block) (on p.block.sides a) → lo ≡ (edition_of e).lo p.total → hi ≡ hi_of p.total → CutIs (line_at lines) (length lines) lo hi at left
    → (at ≡ cut_line e g ws a p.block p.total) × (left ≡ total (line_weight g ws a p.block) (cut_line e g ws a p.block p.total))
cut_made e g ws p a {lines} {lo} {hi} {at} {left} f l h c =
    let long : length (list (line_weight g ws a p.block) (on p.block.sides a)) ≡ on p.block.sides a = length_list _ _ in
    let cut = cut_of_sums g ws a p.block lo hi (rw (f, long) at c) in
    let place : at ≡ cut_line e g ws a p.block p.total = rw (← l, hi_stays e, ← h) cut.place in
    (place, rw (← place) cut.weight)

-- the cut in grid coordinates is small
pub split_fits : {g : Grid} {ws : List ℕ} {b : SubGrid} → Readable g ws → Lies g b → (a at : ℕ) → a < 3 → at < on b.sides a → on b.low a + at < 4294967296
split_fits f r a at h l = omega (arith, r.inside a h, f.sides_fit a h)
