-- `cut` meets its contract: the median of the lines' sums is their cut, and the parts are those before and from the line that the cut lies at.
use Rattle.std.proofs.Common.{◌<◌, arith}
use Rattle.blocks.specs.Blocks.{across}
use Rattle.blocks.proofs.AsBlocks.{across_lt, across_is}
use Rattle.cuts.specs.Cuts.{cut_into}
use Rattle.cuts.proofs.Solids.{side_fits, lines_light}
use Rattle.cuts.proofs.Cuts.{lines_summed, cut_made, first_sound, second_sound}
use Rattle.cuts.proofs.cutting.Cutting.cut.Goals as goal

pub weighted_median-median-requires-clause-lines_light : goal.weighted_median-median-requires-clause-lines_light
weighted_median-median-requires-clause-lines_light c =
    let a = c.args in
    let few = across_lt a.axis in
    rw (lines_summed _ a.sums.now c.told-sums (side_fits a.self.now.readable c.requires.lies _ few) c.side-side.ensures c.sum_lines.ensures)
    (lines_light a.self.now.readable c.requires.lies _ few)

pub returns-clause-cut : goal.returns-clause-cut
unfolding cut_into
returns-clause-cut c =
    let a = c.args in
    let few = across_lt a.axis in
    let lines = lines_summed _ a.sums.now c.told-sums (side_fits a.self.now.readable c.requires.lies _ few) c.side-side.ensures c.sum_lines.ensures in
    let m = cut_made a.self.now.edition a.self.now.grid a.self.now.weights.now a.part.now (across a.axis) lines c.min_part_weight-lo.ensures c.max_part_weight-hi.ensures c.weighted_median-median.ensures in
    rw (c.split.ensures, c.left_part.ensures, c.right_part.ensures, c.saturating_sub.ensures, m.1, m.0)

pub returns-clause-sound : goal.returns-clause-sound
unfolding cut_into
returns-clause-sound c sound inside =
    let a = c.args in
    let few = across_lt a.axis in
    let lines = lines_summed _ a.sums.now c.told-sums (side_fits a.self.now.readable c.requires.lies _ few) c.side-side.ensures c.sum_lines.ensures in
    let m = cut_made a.self.now.edition a.self.now.grid a.self.now.weights.now a.part.now (across a.axis) lines c.min_part_weight-lo.ensures c.max_part_weight-hi.ensures c.weighted_median-median.ensures in
    let on_axis : across a.axis < a.self.now.grid.axes = rw (across_is a.axis (omega (arith, a.self.now.grid.axes_fit))) inside in
    rw (c.left_part.ensures, c.right_part.ensures, c.saturating_sub.ensures, m.1, m.0) (
      first_sound a.self.now.edition sound (across a.axis) on_axis c.requires.some.0,
      second_sound a.self.now.edition sound (across a.axis) on_axis c.requires.some.0,
    )
