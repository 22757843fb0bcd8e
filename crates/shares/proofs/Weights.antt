-- The sum of weights, as a list's and as that of all points; light weights have one that fits a u64. Assumes nothing.
use Prim.Native.Nat.{ℕ, zero, suc, ◌+◌, ◌<◌, ◌^◌}
use native.Mathlib.Omega.{arith}
use mathlib.Core.Path.{◌≡◌, refl, ap, sym, ◌∙◌}
use mathlib.Core.List.{List, [], ◌∷◌}
use lib.ListN.{length}
use Rattle.std.specs.List.{sum}
use Rattle.std.proofs.lemmas.List.Sums.{sum_by-cons}
use Rattle.rules.specs.Sums.{total}
use Rattle.laws.proofs.Totals.{total_le}
use Rattle.requests.specs.Order.{at}
use Rattle.shares.specs.Light.{Light}

from_first : (f : ℕ → ℕ) (n : ℕ) → total f (suc n) ≡ f 0 + total (λ i. f (suc i)) n
unfolding total
from_first f zero = omega arith
from_first f (suc n) = omega (arith, from_first f n)

pub sum_is_total : (ws : List ℕ) → sum ws ≡ total (at ws) (length ws)
unfolding total
sum_is_total [] = refl
sum_is_total (w ∷ ws) = sum_by-cons (λ x. x) w ws ∙ ap (λ (n : ℕ). w + n) (sum_is_total ws) ∙ sym (from_first (at (w ∷ ws)) (length ws))

pub sum_fits : (ws : List ℕ) → Light ws → sum ws < 2 ^ 64
sum_fits ws l = omega (arith, sum_is_total ws, total_le (at ws) _ (length ws) l.light, l.short)
