-- The cut of a part, and what is known of a part that is cut.
use Rattle.std.specs.Prelude.{ℕ, ◌+◌, ◌-◌, ◌<◌, ◌≡◌, List}
use Rattle.rules.specs.Sums.{total}
use Rattle.rules.specs.Grid.{on, weight}
use Rattle.rules.specs.Halving.{edition_of, cut_of}
use Rattle.blocks.specs.Blocks.{sides_of, as_block, left_part, right_part}
use Rattle.blocks.specs.declared.grid.Grid.{Grid}
use Rattle.blocks.specs.declared.block.SubGrid.{SubGrid}
use Rattle.cuts.specs.Sums.{line_weight, Lies}
use Rattle.cuts.specs.declared.cutting.Part.{Part}
use Rattle.cuts.specs.declared.cutting.Cut.{Cut}

-- the cut of a block of weight t by its lines' weights, for lo and hi of the edition of a number, and the parts that it leaves
abbrev pub cut_line : ℕ → Grid → List ℕ → ℕ → SubGrid → ℕ → ℕ
cut_line e g ws a b t = cut_of (line_weight g ws a b) (on b.sides a) ((edition_of e).lo t) ((edition_of e).hi t)

unfoldable pub cut_into : ℕ → Grid → List ℕ → ℕ → Part → Cut
cut_into e g ws a p =
    let at : ℕ = cut_line e g ws a p.block p.total in
    let left : ℕ = total (line_weight g ws a p.block) at in
    record {
      split = on p.block.low a + at;
      first = record { block = left_part a p.block at; total = left };
      second = record { block = right_part a p.block at; total = p.total - left };
    }

-- the part is a block of the grid, of one layer where there are two axes, and weighs what the rules say
pub record Sound (g : Grid) (ws : List ℕ) (p : Part) : Type 0 where
  pub lies : Lies g p.block
  pub one_layer : g.axes < 3 → on p.block.sides 2 ≡ 1
  pub few : p.total < 35184372088832
  pub weight : p.total ≡ weight (sides_of g) ws (as_block g.axes p.block)
