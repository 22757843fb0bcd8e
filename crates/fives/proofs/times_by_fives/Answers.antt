-- The whole number that stands for digits * 5 ^ k is rounded once; the power of two is exact.
use Rattle.std.proofs.Common.{◌≡◌, ℕ, ◌*◌, ◌^◌, ◌<◌, refl, sym, subst, zero-lt-suc, mul-pos, arith}
use native.Mathlib.Nat.{one-le-pow}
use Rattle.fives.specs.Fives.{Stands, number_of}
use Rattle.fives.proofs.ByFives.{times_by_fives}
use Rattle.fives.proofs.times_by_fives.Goals as goal

pub leading_digits-marked-requires : goal.leading_digits-marked-requires
leading_digits-marked-requires c = subst (λ (z : ℕ). 0 < z) (sym c.times_power_of_five.ensures.number) (mul-pos c.requires.0 (one-le-pow c.args.k 5 (zero-lt-suc 4)))

pub returns : goal.returns
returns c =
    let parts = c.times_power_of_five.result in
    let said = c.times_power_of_five.ensures in
    let bases : parts.second * parts.first ≡ 2 ^ 32 * 2 ^ 32 = rw (said.bases.0, said.bases.1) refl in
    times_by_fives c.args.negative c.args.digits _ c.args.k _ _ _ c.requires.1 (omega arith) said.number
    (subst (λ (b : ℕ). Stands (number_of parts) b c.leading_digits-marked.result) bases c.leading_digits-marked.ensures) c.signed.ensures c.power_of_two.ensures
