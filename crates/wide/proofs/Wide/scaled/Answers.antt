-- A turn that is not the last leaves room for the last.
use Rattle.std.proofs.Common.{◌∙◌}
use native.Mathlib.Nat.{lt_of_le_of_lt}
use Rattle.wide.proofs.Powers.{one_more, not_last}
use Rattle.wide.proofs.Wide.scaled.Goals as goal

pub times-r-requires-clause-fits : goal.times-r-requires-clause-fits
times-r-requires-clause-fits c =
    rw c.loop-i.invariant
    (lt_of_le_of_lt (not_last c.args.self c.args.s c.loop-i.i c.args.n c.requires.s_nonzero.0 c.loop-i-test.true) c.requires.fits)

pub loop-i-preserved : goal.loop-i-preserved
loop-i-preserved c = c.times-r.ensures ∙ rw c.loop-i.invariant (one_more _ _ _)
