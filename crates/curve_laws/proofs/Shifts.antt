-- What the code's shifts say of a number: `1 << m` is 2^m, and an index is below 2^m where a shift by m leaves nothing of it. Assumes nothing.
use Prim.Native.Nat.{ℕ, ◌*◌, ◌/◌, ◌%◌, ◌^◌, ◌≤◌, ◌<◌}
use mathlib.Core.Path.{◌≡◌, sym, ap, ◌∙◌, subst}
use native.Mathlib.Decide.{ℕ_discrete}
use Rattle.std.specs.Prelude.{Option, Some, None, SomeIff}
use Rattle.std.specs.Option.{unwrap_or}
use native.Mathlib.Omega.{arith}
use native.Mathlib.Nat.{one-mul, mul-mod_left, div-add-mod', mul-le-mul_right, div-lt_iff_lt-mul}
use lib.Dec.{T, leb, leb→le, lit<}
use lib.Pow.{shl_exact, pow_pos}

pub one_shifted : (m : ℕ) → m ≤ 63 → 1 * 2 ^ m % 2 ^ 64 ≡ 2 ^ m
one_shifted m h = shl_exact 1 m 64 (lit< tt) (omega arith) ∙ one-mul (2 ^ m)

pub over : (m x : ℕ) → m ≤ 63 → 1 * 2 ^ m % 2 ^ 64 ≤ x → 2 ^ m ≤ x
over m x h t = subst (λ (n : ℕ). n ≤ x) (one_shifted m h) t

pub under : (m x : ℕ) → m ≤ 63 → x < 1 * 2 ^ m % 2 ^ 64 → x < 2 ^ m
under m x h t = subst (λ (n : ℕ). x < n) (one_shifted m h) t

-- of the side of the cells' square or cube, where the top order is at most 63
pub off_side : (top order x : ℕ) → order ≤ top → T (leb top 63) → 1 * 2 ^ order % 2 ^ 64 ≤ x → 2 ^ order ≤ x
off_side top order x o t h = over order x (omega (arith, leb→le top 63 t)) h

pub on_side : (top order x : ℕ) → order ≤ top → T (leb top 63) → x < 1 * 2 ^ order % 2 ^ 64 → x < 2 ^ order
on_side top order x o t h = under order x (omega (arith, leb→le top 63 t)) h

-- of an index of 64 bits from which the places of all levels are shifted out, where they are fewer than 64
pub reaches : (m x : ℕ) (rest : Option ℕ) → SomeIff rest (m < 64) (x / 2 ^ m) → 0 < unwrap_or rest 0 → 2 ^ m ≤ x
reaches m x None f h = absurd (omega arith)
reaches m x (Some r) f h =
    let p : 0 < x / 2 ^ m = subst (λ (n : ℕ). 0 < n) f.1 h in
    omega (arith, div-add-mod' x (2 ^ m), mul-le-mul_right (2 ^ m) p, one-mul (2 ^ m))

pub falls_short : (m x : ℕ) (rest : Option ℕ) → SomeIff rest (m < 64) (x / 2 ^ m) → m ≤ 64 → x < 2 ^ 64 → unwrap_or rest 0 ≤ 0 → x < 2 ^ m
falls_short m x None f l b h =
    elim (ℕ_discrete m 64) [
      | yes e ↦ subst (λ (n : ℕ). x < 2 ^ n) (sym e) b
      | no ne ↦ absurd (f (omega arith))
    ]
falls_short m x (Some r) f l b h =
    let p : x / 2 ^ m < 1 = omega (arith, f.1) in
    omega (arith, (div-lt_iff_lt-mul (pow_pos m)).0 p, one-mul (2 ^ m))

-- and of one that is shifted up, by all 64 places where there are no levels
pub raised : (m x : ℕ) (r : Option ℕ) → SomeIff r (m < 64) (x * 2 ^ m % 2 ^ 64) → m ≤ 64 → unwrap_or r 0 ≡ x * 2 ^ m % 2 ^ 64
raised m x None f l =
    elim (ℕ_discrete m 64) [
      | yes e ↦ sym (ap (λ (n : ℕ). x * 2 ^ n % 2 ^ 64) e ∙ mul-mod_left x (2 ^ 64))
      | no ne ↦ absurd (f (omega arith))
    ]
raised m x (Some r) f l = f.1
