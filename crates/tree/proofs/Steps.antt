-- The rule's tree below a part of the code goes step by step.
use Prim.Native.Nat.{ℕ, ◌+◌, ◌-◌, ◌*◌, ◌<◌}
use native.Mathlib.Omega.{arith}
use mathlib.Core.Path.{◌≡◌, sym, ◌∙◌}
use mathlib.Core.List.{List}
use lib.ListN.{length, set}
use Rattle.rules.specs.Grid.{on}
use Rattle.rules.specs.Halving.{edition_of, next_axis, fill}
use Rattle.halving_laws.proofs.Steps.{fill_flat, fill_cut}
use Rattle.blocks.specs.Blocks.{sides_of, as_block}
use Rattle.blocks.specs.declared.grid.Grid.{Grid}
use Rattle.blocks.proofs.AsBlocks.{axes_are, block_side, block_left, block_right}
use Rattle.cuts.specs.Cuts.{cut_line, cut_into, Sound}
use Rattle.cuts.specs.declared.cutting.Part.{Part}
use Rattle.cuts.specs.declared.cutting.Cut.{Cut}
use Rattle.cuts.proofs.Cuts.{line_inside, cut_on}

module _ (e : ℕ) {g : Grid} {ws : List ℕ} {p : Part} (r : Sound g ws p) (a : ℕ) (h : a < g.axes) (d node : ℕ) (splits : List ℕ) where
  as_long : length p.block.low ≡ length p.block.sides
  as_long = r.lies.low_long ∙ sym r.lies.sides_long

  pub tree_flat : on p.block.sides a ≡ 0 → splits ≡ fill (edition_of e) (sides_of g) ws d a (as_block g.axes p.block) node splits
  tree_flat z = fill_flat (edition_of e) (sides_of g) ws d a (as_block g.axes p.block) node splits (block_side g.axes a p.block as_long h ∙ z)

  pub tree_cut : (splits₁ splits₂ : List ℕ) (c : Cut) → (d ≡ 0 → ⊥) → 0 < on p.block.sides a → c ≡ cut_into e g ws a p
      → splits₁ ≡ fill (edition_of e) (sides_of g) ws (d - 1) (next_axis g.axes a) (as_block g.axes c.first.block) (2 * node) (set splits (node - 1) c.split)
      → splits₂ ≡ fill (edition_of e) (sides_of g) ws (d - 1) (next_axis g.axes a) (as_block g.axes c.second.block) (2 * node + 1) splits₁
      → splits₂ ≡ fill (edition_of e) (sides_of g) ws d a (as_block g.axes p.block) node splits
  unfolding cut_into
  tree_cut splits₁ splits₂ c f k i first second =
      let at : ℕ = cut_line e g ws a p.block p.total in
      let l = line_inside e r a h k in
      rw (second, first, i, block_left g.axes a p.block as_long at l, block_right g.axes a p.block as_long at l)
      (rw (axes_are g) at
      (fill_cut (edition_of e) (sides_of g) ws d a (as_block g.axes p.block) node (on p.block.low a + at) splits f (λ z. omega (arith, block_side g.axes a p.block as_long h)) (cut_on e r a h)))
