-- `sum_lines` meets its contract: the lines that it sums are the lines of the block.
use Rattle.std.proofs.Common.{◌∙◌}
use Rattle.blocks.proofs.AsBlocks.{across_lt}
use Rattle.cuts.proofs.Solids.{lines_fit, line_sums_are}
use Rattle.cuts.proofs.cutting.Cutting.sum_lines.Goals as goal

pub line_sums-requires-clause-lines_fit : goal.line_sums-requires-clause-lines_fit
line_sums-requires-clause-lines_fit c =
    rw (c.stack-line.ensures, c.left_part.ensures, c.stride-jump.ensures, c.corner-start.ensures, c.requires.sums_len)
    (lines_fit c.args.self.now.readable c.requires.lies _ (across_lt c.args.axis))

pub returns : goal.returns
returns c =
    c.line_sums.ensures
    ∙ rw (c.stack-line.ensures, c.left_part.ensures, c.stride-jump.ensures, c.corner-start.ensures, c.requires.sums_len)
    (line_sums_are c.args.self.now.readable c.requires.lies _ (across_lt c.args.axis))
