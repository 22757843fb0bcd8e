-- What has been met before byte n says the value.
use Rattle.std.proofs.Common.{◌+◌}
use Rattle.decimals.specs.Decimals.{MetBefore}
use Rattle.decimals.proofs.ended.Given as goal

abbrev pub invariant-loop-n : goal.invariant-loop-n
invariant-loop-n l = MetBefore l.word l.met (l.from + l.n)
