-- `solid` meets its contract: the sum is that of the sheets passed.
use Rattle.std.proofs.Common.{◌+◌, ◌*◌, refl, arith}
use Rattle.rules.specs.Sums.{total}
use Rattle.lines.specs.Stacks.{solid_sum}
use Rattle.lines.proofs.Bounds.{sheet_light, solid_light, solid_more}
use Rattle.lines.proofs.solid.Goals as goal

pub loop-k-init : goal.loop-k-init
unfolding solid_sum total
loop-k-init c = refl

pub overflow_add-sum : goal.overflow_add-sum
overflow_add-sum c =
    let a = c.args in
    let k = c.loop-k.k in
    let f = c.requires.solid_fits.each in
    let l = c.loop-k-test.true in
    omega (
      arith,
      c.requires.solid_fits.short,
      (f k l).short,
      sheet_light _ c.requires.light (a.start + a.s.layer * k) a.s a.s.height (f k l).each,
      c.sheet-sum.ensures,
      solid_light _ c.requires.light a.start a.s k (λ i q. f i (omega arith)),
    )

pub loop-k-preserved : goal.loop-k-preserved
loop-k-preserved c = omega (arith, c.sheet-sum.ensures, solid_more c.args.weights.now c.args.start c.args.s c.loop-k.k)
