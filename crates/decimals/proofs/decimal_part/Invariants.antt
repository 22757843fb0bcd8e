-- The digits so far are met as decimals, of which there are as many as bytes behind the point.
use Rattle.std.proofs.Common.{◌+◌, ◌≤◌, false}
use Rattle.decimal_steps.specs.declared.Met.TheVariants.{Decimals}
use Rattle.decimals.specs.Decimals.{MetBefore}
use Rattle.decimals.proofs.decimal_part.Given as goal

abbrev pub invariant-loop-n : goal.invariant-loop-n
invariant-loop-n l = MetBefore l.word (Decimals false l.digits l.n) (l.from + l.n) × (l.n ≤ 44)
