-- The splits that a weight reaches, one after the other; what is multiplied fits a u64. Assumes nothing.
use Prim.Native.Nat.{ℕ, ◌+◌, ◌*◌, ◌≤◌, ◌<◌}
use native.Mathlib.Omega.{arith}
use native.Mathlib.Nat.{mul-le-mul, mul-le-mul_right, eq-or-lt_of_le}
use mathlib.Core.Logic.{⊎_elim}
use mathlib.Core.Path.{◌≡◌}
use Rattle.requests.specs.Parts.{top_parts}
use Rattle.parts_laws.specs.Passing.{top_all, Advanced}

-- r of n splits from k on are reached by the weight s, of t in all
pub record Reached (k n t s have r : ℕ) : Type 0 where
  pub on : k ≤ r
  pub below : r < n
  pub reached : (i : ℕ) → k < i → i ≤ r → i * t ≤ n * s
  pub is : have ≡ n * s

pub begin : (k n t s have : ℕ) → k < n → have ≡ n * s → Reached k n t s have k
begin k n t s have h e = record { on = omega arith; below = h; reached = λ i a b. absurd (omega arith); is = e }

module _ {k n t s have r : ℕ} (g : Reached k n t s have r) where
  pub go_on : r + 1 < n → (r + 1) * t ≤ have → Reached k n t s have (r + 1)
  go_on h l = record {
    on = omega (arith, g.on);
    below = h;
    reached = λ i a b. ⊎_elim (λ (e : i ≡ r + 1). rw (e, ← g.is) l) (λ (m : i < r + 1). g.reached i a (omega arith)) (eq-or-lt_of_le b);
    is = g.is;
  }

  pub stops : have < (r + 1) * t → Advanced k n t s r
  stops l = record {
    on = g.on;
    below = g.below;
    reached = g.reached;
    missed = λ i a b. let m : r + 1 ≤ i = omega arith in omega (arith, mul-le-mul_right t m, g.is);
  }

  pub ends : n ≤ r + 1 → Advanced k n t s r
  ends l = record { on = g.on; below = g.below; reached = g.reached; missed = λ i a b. absurd (omega arith) }

pub product_fits : (a b : ℕ) → a ≤ top_parts → b ≤ top_all → a * b ≤ top_parts * top_all
product_fits a b h g = mul-le-mul h g
