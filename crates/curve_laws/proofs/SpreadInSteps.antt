-- Spreading in steps: runs of w + w bits that stand apart become runs of w bits, by one shift and one mask, until every run is a bit. The step is
-- one law, for any width, shift and mask. Assumes nothing.
use Prim.Native.Nat.{ℕ, zero, suc, ◌+◌, ◌-◌, ◌*◌, ◌/◌, ◌%◌, ◌^◌, ◌≤◌, ◌<◌}
use mathlib.Core.Path.{◌≡◌, sym, ap, ap₂, ◌∙◌, subst}
use native.Mathlib.Omega.{arith}
use native.Mathlib.Nat.{zero-add, mul_assoc, mul-add, add-mul, mul-mod_left, mul-add-mod_self_right, div-add-mod', mod-lt, mod-eq_of_lt, lt_of_lt_of_le, zero-mul, add_assoc}
use lib.Arith.{digits_lt}
use lib.Bits.{bit_and, bit_or, and_block, and_mask, and_mod, or_block, or_mod, or_lt, or_zero_r}
use lib.Pow.{pow-add, pow_pos, pow_mono, shr-shr, low, mod-pow-add, shl_lt, ones_lt}
use lib.Dec.{lit≤}
use Rattle.curve_laws.proofs.Interleave.{runs, stretch, swap}

-- w set bits in the place of each of n runs, d places apart
abbrev pub places : ℕ → ℕ → ℕ → ℕ
places d w zero = 0
places d w (suc n) = places d w n * 2 ^ d + (2 ^ w - 1)

-- THE STEP. The upper half of a run moves up by k = j + w, so that halves stand p = w + k places apart.

module _ (j w : ℕ) where
  abbrev pub k : ℕ
  k = j + w

  abbrev pub p : ℕ
  p = w + k

  -- one run, of the halves a and b
  one_run : (a b : ℕ) → a < 2 ^ w → b < 2 ^ w
      → bit_and (bit_or (a * 2 ^ w + b) ((a * 2 ^ w + b) * 2 ^ k)) ((2 ^ w - 1) * 2 ^ p + (2 ^ w - 1)) ≡ a * 2 ^ p + b
  one_run a b ha hb =
      let r : ℕ = a * 2 ^ w + b in
      let o : ℕ = 2 ^ w - 1 in
      let x : ℕ = bit_or r (b * 2 ^ k) in
      let wp : 2 ^ w ≤ 2 ^ p = pow_mono (omega arith) in
      let r-lt : r < 2 ^ p =
      lt_of_lt_of_le (subst (λ (n : ℕ). r < n) (sym (pow-add 2 w w)) (digits_lt ha hb)) (pow_mono (omega arith))
      in
      let b_lt : b * 2 ^ k < 2 ^ p = shl_lt w k hb in
      let x_lt : x < 2 ^ p = or_lt p r (b * 2 ^ k) r-lt b_lt in
      let o_lt : o < 2 ^ p = lt_of_lt_of_le (ones_lt w) wp in
      let up : r * 2 ^ k ≡ a * 2 ^ p + b * 2 ^ k =
      add-mul (a * 2 ^ w) b (2 ^ k) ∙ ap (λ (n : ℕ). n + b * 2 ^ k) (mul_assoc a (2 ^ w) (2 ^ k) ∙ ap (λ (n : ℕ). a * n) (sym (pow-add 2 w k)))
      in
      let either : bit_or r (r * 2 ^ k) ≡ a * 2 ^ p + x =
      ap₂ bit_or (sym (ap (λ (n : ℕ). n + r) (zero-mul (2 ^ p)) ∙ zero-add r)) up
      ∙ or_block p 0 a r (b * 2 ^ k) r-lt b_lt
      in
      let none : b * 2 ^ k % 2 ^ w ≡ 0 =
      ap (λ (n : ℕ). b * n % 2 ^ w) (pow-add 2 j w) ∙ ap (λ (n : ℕ). n % 2 ^ w) (sym (mul_assoc b (2 ^ j) (2 ^ w))) ∙ mul-mod_left (b * 2 ^ j) (2 ^ w)
      in
      let lower : bit_and x o ≡ b =
      and_mask x w ∙ or_mod r (b * 2 ^ k) w ∙ ap₂ bit_or (low a w hb) none ∙ or_zero_r b
      in
      let upper : bit_and a o ≡ a = and_mask a w ∙ mod-eq_of_lt ha in
      ap (λ (n : ℕ). bit_and n (o * 2 ^ p + o)) either
      ∙ and_block p a o x o x_lt o_lt
      ∙ ap₂ (λ (m n : ℕ). m * 2 ^ p + n) upper lower

  all_runs : (n s : ℕ)
      → bit_and (bit_or (runs (p + p) (w + w) n s) (runs (p + p) (w + w) n s * 2 ^ k)) (places p w (n + n)) ≡ runs p w (n + n) s
  unfolding runs
  all_runs zero s = ap (λ (n : ℕ). bit_and n 0) (zero-mul (2 ^ k))
  all_runs (suc n) s =
      let a : ℕ = s / 2 ^ w % 2 ^ w in
      let b : ℕ = s % 2 ^ w in
      let o : ℕ = 2 ^ w - 1 in
      let t : ℕ = s / 2 ^ (w + w) in
      let L : ℕ = runs (p + p) (w + w) n t in
      let F : ℕ = places p w (n + n) in
      let r : ℕ = a * 2 ^ w + b in
      let ha : a < 2 ^ w = mod-lt (s / 2 ^ w) (pow_pos w) in
      let hb : b < 2 ^ w = mod-lt s (pow_pos w) in
      let ho : o < 2 ^ w = ones_lt w in
      let r-lt : r < 2 ^ (w + w) = subst (λ (n : ℕ). r < n) (sym (pow-add 2 w w)) (digits_lt ha hb) in
      let small : r < 2 ^ (p + p) = lt_of_lt_of_le r-lt (pow_mono (omega arith)) in
      let shifted : r * 2 ^ k < 2 ^ (p + p) = lt_of_lt_of_le (shl_lt (w + w) k r-lt) (pow_mono (omega arith)) in
      let two-places : o * 2 ^ p + o < 2 ^ (p + p) =
      subst (λ (n : ℕ). o * 2 ^ p + o < n) (sym (pow-add 2 p p)) (digits_lt (lt_of_lt_of_le ho wp) (lt_of_lt_of_le ho wp))
      in
      let Y : runs (p + p) (w + w) (suc n) s ≡ L * 2 ^ (p + p) + r = ap (λ (n : ℕ). L * 2 ^ (p + p) + n) (mod-pow-add s w w) in
      let Z : (L * 2 ^ (p + p) + r) * 2 ^ k ≡ L * 2 ^ k * 2 ^ (p + p) + r * 2 ^ k =
      add-mul (L * 2 ^ (p + p)) r (2 ^ k) ∙ ap (λ (n : ℕ). n + r * 2 ^ k) (swap L (2 ^ (p + p)) (2 ^ k))
      in
      let M : places p w (suc n + suc n) ≡ F * 2 ^ (p + p) + (o * 2 ^ p + o) =
      ap (places p w) (twice n) ∙ paired F o o
      in
      let R : runs p w (suc n + suc n) s ≡ runs p w (n + n) t * 2 ^ (p + p) + (a * 2 ^ p + b) =
      ap (λ (n : ℕ). runs p w n s) (twice n)
      ∙ paired (runs p w (n + n) (s / 2 ^ w / 2 ^ w)) a b
      ∙ ap (λ (m : ℕ). runs p w (n + n) m * 2 ^ (p + p) + (a * 2 ^ p + b)) (shr-shr s w w)
      in
      ap₂ (λ (y f : ℕ). bit_and (bit_or y (y * 2 ^ k)) f) Y M
      ∙ ap (λ (z : ℕ). bit_and (bit_or (L * 2 ^ (p + p) + r) z) (F * 2 ^ (p + p) + (o * 2 ^ p + o))) Z
      ∙ ap (λ (z : ℕ). bit_and z (F * 2 ^ (p + p) + (o * 2 ^ p + o))) (or_block (p + p) L (L * 2 ^ k) r (r * 2 ^ k) small shifted)
      ∙ and_block (p + p) (bit_or L (L * 2 ^ k)) F (bit_or r (r * 2 ^ k)) (o * 2 ^ p + o) (or_lt (p + p) r (r * 2 ^ k) small shifted) two-places
      ∙ ap₂ (λ (x y : ℕ). x * 2 ^ (p + p) + y) (all_runs n t) (one_run a b ha hb)
      ∙ sym R
    where
      wp : 2 ^ w ≤ 2 ^ p
      wp = pow_mono (omega arith)

      twice : (m : ℕ) → suc m + suc m ≡ suc (suc (m + m))
      twice m = omega arith

      paired : (x u v : ℕ) → (x * 2 ^ p + u) * 2 ^ p + v ≡ x * 2 ^ (p + p) + (u * 2 ^ p + v)
      paired x u v =
          ap (λ (n : ℕ). n + v) (add-mul (x * 2 ^ p) u (2 ^ p) ∙ ap (λ (n : ℕ). n + u * 2 ^ p) (mul_assoc x (2 ^ p) (2 ^ p) ∙ ap (λ (n : ℕ). x * n) (sym (pow-add 2 p p))))
          ∙ add_assoc (x * 2 ^ (p + p)) (u * 2 ^ p) v

-- The same in 64 bits: what the shift carries over the top is of no run that is kept.

pub drop_top : (n x y : ℕ) → x % n * y % n ≡ x * y % n
drop_top n x y =
    let e : x * y ≡ x / n * y * n + x % n * y =
    ap (λ (z : ℕ). z * y) (sym (div-add-mod' x n)) ∙ add-mul (x / n * n) (x % n) y ∙ ap (λ (z : ℕ). z + x % n * y) (swap (x / n) n y)
    in
    sym (ap (λ (z : ℕ). z % n) e ∙ mul-add-mod_self_right (x / n * y) n (x % n * y))

in_64_bits : (j w n s : ℕ) {y mask : ℕ} → y ≡ runs (p j w + p j w) (w + w) n s % 2 ^ 64 → mask ≡ places (p j w) w (n + n) % 2 ^ 64
    → bit_and (bit_or y (y * 2 ^ k j w % 2 ^ 64)) mask ≡ runs (p j w) w (n + n) s % 2 ^ 64
in_64_bits j w n s e f =
    let Y : ℕ = runs (p j w + p j w) (w + w) n s in
    let F : ℕ = places (p j w) w (n + n) in
    ap₂ (λ (a b : ℕ). bit_and (bit_or a (a * 2 ^ k j w % 2 ^ 64)) b) e f
    ∙ ap (λ (a : ℕ). bit_and (bit_or (Y % 2 ^ 64) a) (F % 2 ^ 64)) (drop_top (2 ^ 64) Y (2 ^ k j w))
    ∙ ap (λ (a : ℕ). bit_and a (F % 2 ^ 64)) (sym (or_mod Y (Y * 2 ^ k j w) 64))
    ∙ sym (and_mod (bit_or Y (Y * 2 ^ k j w)) F 64)
    ∙ ap (λ (a : ℕ). a % 2 ^ 64) (all_runs j w n s)

-- On the way to a comb of every (f + 2)-th place, runs of w bits stand (f + 2) * w places apart.

abbrev pub up : ℕ → ℕ → ℕ
up f w = k (f * w) w

abbrev pub apart : ℕ → ℕ → ℕ
apart f w = p (f * w) w

pub step : (f w n s : ℕ) {y mask : ℕ} → y ≡ runs (apart f (w + w)) (w + w) n s % 2 ^ 64 → mask ≡ places (apart f w) w (n + n) % 2 ^ 64
    → bit_and (bit_or y (y * 2 ^ up f w % 2 ^ 64)) mask ≡ runs (apart f w) w (n + n) s % 2 ^ 64
step f w n s e mask_is =
    let q : apart f (w + w) ≡ apart f w + apart f w = omega (arith, mul-add f w w) in
    in_64_bits (f * w) w n s (e ∙ ap (λ (d : ℕ). runs d (w + w) n s % 2 ^ 64) q) mask_is

-- five steps make of the lowest 32 bits of a source 32 runs of one bit, as far as 64 bits have room for them
pub five_steps : (f s : ℕ) {y by16 by8 by4 by2 by1 mask16 mask8 mask4 mask2 mask1 : ℕ}
    → y ≡ s % 2 ^ 32
    → by16 ≡ bit_and (bit_or y (y * 2 ^ up f 16 % 2 ^ 64)) mask16 → mask16 ≡ places (apart f 16) 16 2 % 2 ^ 64
    → by8 ≡ bit_and (bit_or by16 (by16 * 2 ^ up f 8 % 2 ^ 64)) mask8 → mask8 ≡ places (apart f 8) 8 4 % 2 ^ 64
    → by4 ≡ bit_and (bit_or by8 (by8 * 2 ^ up f 4 % 2 ^ 64)) mask4 → mask4 ≡ places (apart f 4) 4 8 % 2 ^ 64
    → by2 ≡ bit_and (bit_or by4 (by4 * 2 ^ up f 2 % 2 ^ 64)) mask2 → mask2 ≡ places (apart f 2) 2 16 % 2 ^ 64
    → by1 ≡ bit_and (bit_or by2 (by2 * 2 ^ up f 1 % 2 ^ 64)) mask1 → mask1 ≡ places (apart f 1) 1 32 % 2 ^ 64
    → by1 ≡ stretch (apart f 1) 32 s % 2 ^ 64
unfolding runs
five_steps f s e e16 k16 e8 k8 e4 k4 e2 k2 e1 k1 =
    let b : runs (apart f 32) 32 1 s ≡ s % 2 ^ 32 = ap (λ (n : ℕ). n + s % 2 ^ 32) (zero-mul (2 ^ apart f 32)) ∙ zero-add (s % 2 ^ 32) in
    let l : s % 2 ^ 32 < 2 ^ 64 = lt_of_lt_of_le (mod-lt s (pow_pos 32)) (lit≤ tt) in
    let one_run = e ∙ sym (ap (λ (n : ℕ). n % 2 ^ 64) b ∙ mod-eq_of_lt l) in
    e1 ∙ step f 1 16 s (e2 ∙ step f 2 8 s (e4 ∙ step f 4 4 s (e8 ∙ step f 8 2 s (e16 ∙ step f 16 1 s one_run k16) k8) k4) k2) k1
