-- No step changes what the deposit comes to, and with no bits left of the source or of the mask that is what is placed. Assumes nothing.
use Rattle.std.proofs.Common.{◌≡◌, ℕ, sym, ap, ◌∙◌, rules}
use lib.Bits.{bit_or, or_zero_r}
use Rattle.rules.specs.Curve.{spread}
use Rattle.curve_laws.proofs.Spread.{spread_none, spread_zero}
use Rattle.spread.specs.Depositing.{comes_to}
use Rattle.spread.specs.declared.Depositing.{Depositing}
use Rattle.spread.proofs.deposit_bits.Goals as goal

pub loop-d-init : goal.loop-d-init
unfolding comes_to
loop-d-init c = search rules

-- where nothing is left to place
all_placed : (d : Depositing) → spread 64 d.srcbit d.bitmask ≡ 0 → d.result ≡ comes_to d
unfolding comes_to
all_placed d e = sym (ap (bit_or d.result) e ∙ or_zero_r d.result)

pub returns-then-d-eq0 : goal.returns-then-d-eq0
returns-then-d-eq0 c =
    let d = c.loop-d.d in
    all_placed d (ap (spread 64 d.srcbit) c.if-d-eq0.true ∙ spread_none 64 d.srcbit) ∙ c.loop-d.invariant

pub returns : goal.returns
returns c =
    let d = c.loop-d.d in
    all_placed d (ap (λ (n : ℕ). spread 64 n d.bitmask) c.loop-d-test.false ∙ spread_zero 64 d.bitmask) ∙ c.loop-d.invariant
