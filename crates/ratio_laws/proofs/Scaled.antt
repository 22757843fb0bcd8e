-- A fraction by way of a whole number that rounds as it does, times a power of two: one rounding in all, in the normal range. Assumes nothing.
use Prim.Native.Nat.{ℕ, suc, ◌+◌, ◌-◌, ◌*◌, ◌/◌, ◌^◌, ◌≤◌, ◌<◌}
use mathlib.Core.Path.{◌≡◌, sym, ap, ◌∙◌}
use mathlib.Core.Bool.{Bool, false}
use native.Mathlib.Nat.{le_trans, le_of_eq, lt_of_lt_of_le, lt_of_le_of_lt, mul-one, mul_comm, mul_assoc, mul_left_comm, mul_right_comm, mul-le-mul_right, mul-le-mul_left, mul-lt-mul_of_pos_right, mul-pos, div-lt_iff_lt-mul}
use native.Mathlib.Omega.{arith}
use lib.Dec.{lit≤}
use lib.Pow.{pow-add, pow_pos, pow_mono, pow-lt}
use lib.Ieee.{Float, Format, binary32, binary64, prec, emax, low, size, round, mul}
use lib.Ieee.Digits.{size-le}
use lib.Ieee.Exact.{HasValue}
use lib.Ieee.Order.{drop}
use lib.Ieee.Scale.{grid, overflow, grid_scale, normal_of_fraction, round_same}
use Rattle.ratio_laws.proofs.Again.{kept-le, again, grid_same}
use Rattle.ratio_laws.proofs.Exactly.{product}

-- ---- neither too large nor too small
reaches : (f : Format) → prec f ≤ low f + emax f
reaches binary32 = lit≤ tt
reaches binary64 = lit≤ tt

within_reach : (z p l j e : ℕ) → z ≤ j + l → j ≤ e → p ≤ l + e → p + (z - p) < l + suc e
within_reach z p l j e a b c = omega arith

pub finite_grid : (f : Format) (a c j : ℕ) → 0 < c → a < 2 ^ j * c → j ≤ emax f → grid f a c < overflow f
finite_grid f a c j C h J =
    let n = a * 2 ^ low f in
    let few : size (n / c) ≤ j + low f =
    size-le (n / c) (j + low f)
    ((div-lt_iff_lt-mul C).1
    (lt_of_lt_of_le (mul-lt-mul_of_pos_right h (pow_pos (low f))) (le_of_eq (mul_right_comm (2 ^ j) c (2 ^ low f) ∙ ap (λ (x : ℕ). x * c) (sym (pow-add 2 j (low f))))))) in
    lt_of_le_of_lt (mul-le-mul_right (2 ^ drop (prec f) n c) (kept-le (prec f) n c))
    (lt_of_le_of_lt (le_of_eq (sym (pow-add 2 (prec f) (drop (prec f) n c)))) (pow-lt (within_reach (size (n / c)) (prec f) (low f) j (emax f) few J (reaches f))))

pub normal : (f : Format) (a c k : ℕ) → 0 < c → c ≤ a * 2 ^ k → prec f - 1 + k ≤ low f → prec f ≤ size (a * 2 ^ low f / c)
normal f a c k C h l =
    normal_of_fraction f a c C
    (le_trans (mul-le-mul_left (2 ^ (prec f - 1)) h)
    (le_trans (le_of_eq (mul_left_comm (2 ^ (prec f - 1)) a (2 ^ k) ∙ ap (λ (z : ℕ). a * z) (sym (pow-add 2 (prec f - 1) k))))
    (mul-le-mul_left a (pow_mono l))))

-- ---- a quotient by a power of two
grid_down : (f : Format) (a c t : ℕ) → 0 < c → prec f ≤ size (a * 2 ^ low f / (c * 2 ^ t)) → grid f a c ≡ grid f a (c * 2 ^ t) * 2 ^ t
grid_down f a c t C N =
    grid_same f a c (a * 2 ^ t) (c * 2 ^ t) C (mul-pos C (pow_pos t)) (mul_left_comm a c (2 ^ t) ∙ mul_comm c (a * 2 ^ t))
    ∙ grid_scale f a (c * 2 ^ t) t (mul-pos C (pow_pos t)) N

-- w rounds as a / b does, x is w rounded, and y is 2 ^ u / 2 ^ d
pub scaled : (f : Format) (s : Bool) (a b w u d j : ℕ) (x y : Float) → 0 < b → b ≤ a → prec f - 1 + d ≤ low f → a * 2 ^ u < 2 ^ j * (b * 2 ^ d) → j ≤ emax f
    → grid f a b ≡ grid f w 1 → HasValue x s (grid f w 1) (2 ^ low f) → HasValue y false (2 ^ u) (2 ^ d) → mul f x y ≡ round f s (a * 2 ^ u) (b * 2 ^ d)
scaled f s a b w u d j x y B l F A J e hx hy =
    product f s x y (grid f w 1) (2 ^ low f) (2 ^ u) (2 ^ d) (pow_pos (low f)) (pow_pos d) hx hy
    ∙ round_same f s (grid f w 1 * 2 ^ u) (2 ^ low f * 2 ^ d) g (2 ^ low f) (mul-pos (pow_pos (low f)) (pow_pos d)) (pow_pos (low f))
    (ap (λ (z : ℕ). z * 2 ^ low f) both ∙ mul_assoc g (2 ^ d) (2 ^ low f) ∙ ap (λ (z : ℕ). g * z) (mul_comm (2 ^ d) (2 ^ low f)))
    ∙ again f s (a * 2 ^ u) (b * 2 ^ d) (finite_grid f (a * 2 ^ u) (b * 2 ^ d) j (mul-pos B (pow_pos d)) A J)
  where
    g : ℕ
    g = grid f (a * 2 ^ u) (b * 2 ^ d)

    up_l : a ≤ a * 2 ^ u
    up_l = le_trans (le_of_eq (sym (mul-one a))) (mul-le-mul_left a (pow_pos u))

    N : prec f ≤ size (a * 2 ^ low f / b)
    N = normal f a b 0 B (le_trans l (le_of_eq (sym (mul-one a)))) (omega arith)

    M : prec f ≤ size (a * 2 ^ u * 2 ^ low f / (b * 2 ^ d))
    M = normal f (a * 2 ^ u) (b * 2 ^ d) d (mul-pos B (pow_pos d)) (mul-le-mul_right (2 ^ d) (le_trans l up_l)) F

    both : grid f w 1 * 2 ^ u ≡ g * 2 ^ d
    both = ap (λ (z : ℕ). z * 2 ^ u) (sym e) ∙ sym (grid_scale f a b u B N) ∙ grid_down f (a * 2 ^ u) b d B M
