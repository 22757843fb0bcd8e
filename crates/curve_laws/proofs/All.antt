-- What a test of every number below n says of each. Assumes nothing.
use Prim.Native.Nat.{ℕ, zero, suc, ◌<◌}
use mathlib.Core.Path.{subst, sym}
use mathlib.Core.Bool.{Bool, true, false, ◌&&◌}
use native.Mathlib.Omega.{arith}
use native.Mathlib.Decide.{ℕ_discrete}
use lib.Dec.{T}
use Rattle.rules.specs.Sums.{all_below}

-- each of two tests passes
pub left : (a b : Bool) → T (a && b) → T a
left true b t = tt
left false b t = t

pub right : (a b : Bool) → T (a && b) → T b
right true b t = t
right false b t = absurd t

pub all-at : (n : ℕ) (f : ℕ → Bool) → T (all_below n f) → (k : ℕ) → k < n → T (f k)
all-at zero f t k h = absurd (omega arith)
all-at (suc n) f t k h =
    elim (ℕ_discrete k n) [
      | yes e ↦ subst (λ (m : ℕ). T (f m)) (sym e) (left (f n) (all_below n f) t)
      | no ne ↦ all-at n f (right (f n) (all_below n f) t) k (omega arith)
    ]
