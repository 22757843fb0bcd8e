-- The whole number that stands for digits / 5 ^ k is rounded once; the power of two is exact.
use Rattle.std.proofs.Common.{ℕ, ◌*◌, subst, arith}
use Rattle.fives.specs.Fives.{Stands}
use Rattle.fives.proofs.InParts.{whole_again, two_factors}
use Rattle.fives.proofs.ByFives.{over_by_fives}
use Rattle.fives.proofs.over_by_fives.Goals as goal

pub returns : goal.returns
returns c =
    let a = c.args in
    let first = c.power_of_five-first in
    let second = c.power_of_five-second in
    over_by_fives a.negative a.digits _ a.k _ _ _ c.requires.1 (omega arith) (two_factors a.k first.result second.result first.ensures.0 second.ensures.0)
    (subst (λ (z : ℕ). Stands z (second.result * first.result) c.leading_digits-marked.result) (whole_again a.digits first.result second.result) c.leading_digits-marked.ensures)
    c.signed.ensures c.power_of_two.ensures
