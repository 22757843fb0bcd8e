-- `sheet` meets its contract: the sum is that of the runs passed.
use Rattle.std.proofs.Common.{◌+◌, ◌*◌, refl, arith}
use Rattle.rules.specs.Sums.{total}
use Rattle.lines.specs.Stacks.{sheet_sum}
use Rattle.lines.proofs.Bounds.{run_is, run_light, sheet_light, sheet_more}
use Rattle.lines.proofs.sheet.Goals as goal

pub loop-j-init : goal.loop-j-init
unfolding sheet_sum total
loop-j-init c = (omega arith, refl)

pub run-sum-requires : goal.run-sum-requires
run-sum-requires c =
    let a = c.args in
    let f = c.requires.sheet_fits.each c.loop-j.j c.loop-j-test.true in
    rw (run_is a.weights.now (a.start + a.s.row * c.loop-j.j) a.s.width c.loop-j.at c.loop-j.invariant.0 f.reach)
    (omega (arith, f.short, run_light _ c.requires.light (a.start + a.s.row * c.loop-j.j) a.s.width f.reach))

pub overflow_add-sum : goal.overflow_add-sum
overflow_add-sum c =
    let a = c.args in
    let j = c.loop-j.j in
    let f = c.requires.sheet_fits.each in
    let l = c.loop-j-test.true in
    omega (
      arith,
      c.requires.sheet_fits.short,
      (f j l).short,
      run_is a.weights.now (a.start + a.s.row * j) a.s.width c.loop-j.at c.loop-j.invariant.0 (f j l).reach,
      run_light _ c.requires.light (a.start + a.s.row * j) a.s.width (f j l).reach,
      c.run-sum.ensures,
      sheet_light _ c.requires.light a.start a.s j (λ i q. f i (omega arith)),
    )

pub loop-j-preserved : goal.loop-j-preserved
loop-j-preserved c =
    let a = c.args in
    let j = c.loop-j.j in
    let f = c.requires.sheet_fits.each j c.loop-j-test.true in
    let at = c.loop-j.invariant.0 in (
      omega (arith, at),
      omega (arith, c.run-sum.ensures, run_is a.weights.now (a.start + a.s.row * j) a.s.width c.loop-j.at at f.reach, sheet_more a.weights.now a.start a.s j),
    )
