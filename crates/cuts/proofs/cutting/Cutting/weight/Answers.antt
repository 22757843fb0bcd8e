-- `weight` meets its contract: the solid that it sums is that of the block.
use Rattle.std.proofs.Common.{◌∙◌}
use Rattle.cuts.specs.Sums.{solid}
use Rattle.cuts.proofs.Solids.{solid_fits}
use Rattle.cuts.proofs.cutting.Cutting.weight.Goals as goal

pub solid-requires-clause-solid_fits : goal.solid-requires-clause-solid_fits
solid-requires-clause-solid_fits c = rw (c.corner.ensures, c.stack.ensures) (solid_fits c.args.self.now.readable c.requires)

pub returns : goal.returns
unfolding solid
returns c = c.solid.ensures ∙ rw (c.corner.ensures, c.stack.ensures)
