-- A number with a sign is one value of a format: two floats that fit it and have the same number and sign are equal. Assumes nothing.
use Prim.Native.Nat.{ℕ, ◌+◌, ◌-◌, ◌*◌, ◌/◌, ◌^◌, ◌<◌}
use mathlib.Core.Path.{◌≡◌, sym, ap, ◌∙◌}
use mathlib.Core.Bool.{Bool, cond}
use native.Mathlib.Nat.{mul_right_comm}
use lib.Dec.{T}
use lib.Ieee.{Float, nan, inf, fin, Format, prec, low, up, down, size, hid, top, fits, to_bits, of_bits}
use lib.Ieee.Bits.{of_bits-to_bits}
use lib.Ieee.Exact.{HasValue}
use lib.Ieee.Fits.{down_pos}
use lib.Ieee.Nearest.{div_same}

-- the bits of n smallest values
abbrev pub pattern : Format → Bool → ℕ → ℕ
pattern f s n = let k = size n - prec f in cond s (top f) 0 + k * hid f + n / 2 ^ k

pub bits_of : (f : Format) (s : Bool) (c d : ℕ) (x : Float) → 0 < d → HasValue x s c d → to_bits f x ≡ pattern f s (c * 2 ^ low f / d)
unfolding to_bits
bits_of f s c d nan D h = absurd h
bits_of f s c d (inf t) D h = absurd h
bits_of f s c d (fin t m e) D h =
    ap (λ (z : Bool). pattern f z (m * up e * 2 ^ low f / down e)) h.0
    ∙ ap (λ (z : ℕ). pattern f s z)
    (div_same (m * up e * 2 ^ low f) (down e) (c * 2 ^ low f) d (down_pos e) D
    (mul_right_comm (m * up e) (2 ^ low f) d ∙ ap (λ (z : ℕ). z * 2 ^ low f) h.1 ∙ mul_right_comm c (down e) (2 ^ low f)))

pub one_value : (f : Format) (s : Bool) (c d : ℕ) (x y : Float) → 0 < d → T (fits f x) → T (fits f y) → HasValue x s c d → HasValue y s c d → x ≡ y
one_value f s c d x y D p q h k = sym (of_bits-to_bits f x p) ∙ ap (λ (z : ℕ). of_bits f z) (bits_of f s c d x D h ∙ sym (bits_of f s c d y D k)) ∙ of_bits-to_bits f y q
