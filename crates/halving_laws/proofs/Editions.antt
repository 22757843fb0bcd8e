-- What both editions share: their limits. lo of edition 2 may exceed hi, and no law asks otherwise.
use Prim.Native.Nat.{ℕ, zero, suc, ◌^◌, ◌<◌}
use native.Mathlib.Omega.{arith}
use mathlib.Core.Path.{◌≡◌, refl}
use Rattle.rules.specs.Halving.{hi_of, edition1, edition2, edition_of}
use Rattle.halving_laws.proofs.LoHi.{lo_limits, hi_limits}
use Rattle.halving_laws.proofs.Ceilings.{lo_up_limits}
use Rattle.halving_laws.proofs.FairCut.{Limits}

pub edition1_limits : (t : ℕ) → t < 2 ^ 45 → Limits edition1 t
edition1_limits t h = omega (arith, lo_limits t h, hi_limits t h)

pub edition2_limits : (t : ℕ) → t < 2 ^ 45 → Limits edition2 t
edition2_limits t h = omega (arith, lo_up_limits t h, hi_limits t h)

-- every number's edition is one of the two
pub only_2_is_edition_2 : (n : ℕ) → (n ≡ 2 → ⊥) → edition_of n ≡ edition1
unfolding edition_of
only_2_is_edition_2 zero f = refl
only_2_is_edition_2 (suc zero) f = refl
only_2_is_edition_2 (suc (suc zero)) f = absurd (f refl)
only_2_is_edition_2 (suc (suc (suc n))) f = refl

-- hi is the same in every edition
pub hi_stays : (n : ℕ) → (edition_of n).hi ≡ hi_of
unfolding edition_of
hi_stays zero = refl
hi_stays (suc zero) = refl
hi_stays (suc (suc zero)) = refl
hi_stays (suc (suc (suc n))) = refl

pub edition_limits : (n t : ℕ) → t < 2 ^ 45 → Limits (edition_of n) t
unfolding edition_of
edition_limits zero = edition1_limits
edition_limits (suc zero) = edition1_limits
edition_limits (suc (suc zero)) = edition2_limits
edition_limits (suc (suc (suc n))) = edition1_limits
