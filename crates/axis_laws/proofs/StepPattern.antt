-- Which bit patterns are those of values that are not negative, and the step down by one. Assumes nothing.
use mathlib.Core.Path.{◌≡◌, refl, sym, ap, ◌∙◌, subst}
use Prim.Native.Nat.{ℕ, ◌+◌, ◌-◌, ◌*◌, ◌/◌, ◌^◌, ◌≤◌, ◌<◌}
use native.Mathlib.Nat.{mod-eq_of_lt}
use native.Mathlib.Omega.{arith}
use mathlib.Core.Bool.{Bool, true, false, not}
use lib.Dec.{T, ltb, nltb→le}
use borrow.Author.Tests.{le-ltb}
use lib.Ieee.{Float, nan, inf, fin, binary64, prec, low, up, down, size, hid, top, neg, fits, is_nan, to_bits, of_bits, nan_bits}
use lib.Ieee.Fits.{neg-fits}
use lib.Ieee.Bits.{of_bits-to_bits, to_bits-lt, to_bits-of_bits, nan_bits_is, nan_bits_above}

-- not negative, an infinity included
abbrev pub upward : Float → Bool
upward nan = false
upward (inf s) = not s
upward (fin s m e) = not s

-- the pattern of the infinity above
abbrev pub last : ℕ
last = 0x7ff0_0000_0000_0000

flip : (a b t n : ℕ) → n ≡ 0 + a + b → t + a + b < 2 * t → n < t
flip a b t n e h = omega arith

top_of : (x : Float) → T (fits binary64 x) → T (upward x) → to_bits binary64 x < 0x8000_0000_0000_0000
unfolding to_bits neg
top_of nan h u = absurd u
top_of (inf false) h u = omega arith
top_of (inf true) h u = absurd u
top_of (fin true m e) h u = absurd u
top_of (fin false m e) h u =
    let n = m * up e * 2 ^ low binary64 / down e in
    let k = size n - prec binary64 in
    flip (k * hid binary64) (n / 2 ^ k) (top binary64) (to_bits binary64 (fin false m e)) refl (to_bits-lt binary64 (fin true m e) (neg-fits binary64 (fin false m e) h))

pub no_nan : (x : Float) → T (upward x) → is_nan x ≡ false
unfolding is_nan
no_nan nan u = absurd u
no_nan (inf s) u = refl
no_nan (fin s m e) u = refl

pub pattern_le : (x : Float) → T (fits binary64 x) → T (upward x) → to_bits binary64 x ≤ last
pattern_le x h u =
    let b = to_bits binary64 x in
    let l : b < top binary64 = top_of x h u in
    let z : ltb last b ≡ false = ap (λ (z : ℕ). ltb last z) (sym (mod-eq_of_lt l)) ∙ sym (nan_bits_above binary64 b) ∙ nan_bits_is binary64 b ∙ ap is_nan (of_bits-to_bits binary64 x h) ∙ no_nan x u in
    nltb→le last b (subst (λ (t : Bool). T (not t)) (sym z) tt)

pub upward_of_pattern : (x : Float) → to_bits binary64 x ≤ last → T (upward x)
unfolding to_bits
upward_of_pattern nan h = omega arith
upward_of_pattern (inf false) h = tt
upward_of_pattern (inf true) h = omega arith
upward_of_pattern (fin false m e) h = tt
upward_of_pattern (fin true m e) h = omega arith

-- the step down
module _ (x : Float) (h : 1 ≤ to_bits binary64 x) (k : to_bits binary64 x ≤ last) where
  pub step_no_nan : nan_bits binary64 (to_bits binary64 x - 1) ≡ false
  step_no_nan =
      let b = to_bits binary64 x - 1 in
      let s : b < top binary64 = omega arith in
      nan_bits_above binary64 b ∙ ap (λ (z : ℕ). ltb last z) (mod-eq_of_lt s) ∙ le-ltb last b (omega arith)

  pub step_pattern : to_bits binary64 (of_bits binary64 (to_bits binary64 x - 1)) ≡ to_bits binary64 x - 1
  step_pattern =
      to_bits-of_bits binary64 (to_bits binary64 x - 1) (omega arith)
      (subst (λ (t : Bool). T (not t)) (sym (sym (nan_bits_is binary64 (to_bits binary64 x - 1)) ∙ step_no_nan)) tt)

pub zero_of_pattern : (x : Float) → T (fits binary64 x) → to_bits binary64 x ≡ 0 → x ≡ fin false 0 (lib.IntN.pos 0)
unfolding of_bits
zero_of_pattern x h e = sym (of_bits-to_bits binary64 x h) ∙ ap (of_bits binary64) e
