-- A mask of 64 bits that leaves six bits where it meets itself six places up repeats these six: above them it is itself moved up. Assumes nothing.
use Rattle.std.proofs.Common.{◌≡◌, ℕ, zero, suc, ◌+◌, ◌-◌, ◌*◌, ◌/◌, ◌%◌, ◌^◌, ◌<◌, ◌≤◌, sym, ap, ◌∙◌, ap₂, mod-eq_of_lt, arith, lit≤}
use native.Mathlib.Nat.{div-eq_of_lt}
use lib.Bits.{bit_xor, xor_add_and, xor_shr, xor_mod, xor_zero_r, and_le_l, and_le_r}
use lib.Pow.{mod-mod-pow, mod-pow-add}

-- six bits again and again, below the lowest four of them
abbrev pub repeated : ℕ → ℕ → ℕ
repeated zero six = six % 2 ^ 4
repeated (suc n) six = repeated n six * 2 ^ 6 + six

same_bits : (a b : ℕ) → bit_xor a b ≡ 0 → a ≡ b
same_bits a b e = omega (arith, xor_add_and a b, and_le_l a b, and_le_r a b)

-- from the bottom up
module _ (m six : ℕ) (lowest : m % 2 ^ 6 ≡ six) (above : m / 2 ^ 6 ≡ m % 2 ^ 58) where
  from_below : (n : ℕ) → n ≤ 10 → m % 2 ^ (6 * n + 4) ≡ repeated n six
  from_below zero h = omega arith
  from_below (suc n) h =
      let w : ℕ = 6 * n + 4 in
      let r : ℕ = 58 - w in
      let p : 6 * suc n + 4 ≡ w + 6 = omega arith in
      let q : r + w ≡ 58 = omega arith in
      let itself : m / 2 ^ 6 % 2 ^ w ≡ m % 2 ^ w =
      ap (λ (x : ℕ). x % 2 ^ w) (above ∙ ap (λ (x : ℕ). m % 2 ^ x) (sym q)) ∙ mod-mod-pow m r w
      in
      ap (λ (x : ℕ). m % 2 ^ x) p
      ∙ mod-pow-add m w 6
      ∙ ap₂ (λ (x y : ℕ). x * 2 ^ 6 + y) (itself ∙ from_below n (omega arith)) lowest

pub repeats : (m six : ℕ) → m < 2 ^ 64 → bit_xor m (m * 2 ^ 6 % 2 ^ 64) ≡ six → six < 2 ^ 6 → m ≡ repeated 10 six
repeats m six h e l =
    let up : ℕ = m * 2 ^ 6 % 2 ^ 64 in
    let moved : up / 2 ^ 6 ≡ m % 2 ^ 58 = omega arith in
    let none : up % 2 ^ 6 ≡ 0 = omega arith in
    let above : m / 2 ^ 6 ≡ up / 2 ^ 6 =
    same_bits (m / 2 ^ 6) (up / 2 ^ 6) (sym (xor_shr m up 6) ∙ ap (λ (x : ℕ). x / 2 ^ 6) e ∙ div-eq_of_lt l)
    in
    let lowest : m % 2 ^ 6 ≡ six =
    sym (xor_mod m up 6 ∙ ap (bit_xor (m % 2 ^ 6)) none ∙ xor_zero_r (m % 2 ^ 6)) ∙ ap (λ (x : ℕ). x % 2 ^ 6) e ∙ mod-eq_of_lt l
    in
    sym (mod-eq_of_lt h) ∙ from_below m six lowest (above ∙ moved) 10 (lit≤ tt)
