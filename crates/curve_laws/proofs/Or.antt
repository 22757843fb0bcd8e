-- `bit_or` is associative. Assumes nothing.
use Prim.Native.Nat.{ℕ, zero, suc, ◌+◌, ◌*◌, ◌/◌, ◌%◌, ◌<◌}
use mathlib.Core.Path.{◌≡◌, refl, sym, ap₂, ◌∙◌}
use native.Mathlib.Omega.{arith}
use native.Mathlib.Nat.{div-add-mod'}
use lib.Arith.{bin_ind}
use lib.Bits.{bit_or, or_block, or_lt}

bits_assoc : (r s t : ℕ) → r < 2 → s < 2 → t < 2 → bit_or (bit_or r s) t ≡ bit_or r (bit_or s t)
bits_assoc zero s t p q w = refl
bits_assoc (suc zero) zero t p q w = refl
bits_assoc (suc zero) (suc zero) zero p q w = refl
bits_assoc (suc zero) (suc zero) (suc zero) p q w = refl
bits_assoc (suc zero) (suc zero) (suc (suc t)) p q w = absurd (omega arith)
bits_assoc (suc zero) (suc (suc s)) t p q w = absurd (omega arith)
bits_assoc (suc (suc r)) s t p q w = absurd (omega arith)

or_parts : (a b : ℕ) → bit_or a b ≡ bit_or (a / 2) (b / 2) * 2 + bit_or (a % 2) (b % 2)
or_parts a b =
    ap₂ bit_or (sym (div-add-mod' a 2)) (sym (div-add-mod' b 2))
    ∙ or_block 1 (a / 2) (b / 2) (a % 2) (b % 2) (omega arith) (omega arith)

-- bit by bit
pub or_assoc : (a b c : ℕ) → bit_or (bit_or a b) c ≡ bit_or a (bit_or b c)
or_assoc a =
    bin_ind (λ (n : ℕ). (b c : ℕ) → bit_or (bit_or n b) c ≡ bit_or n (bit_or b c)) (λ b c. refl)
    (λ n ih b c.
    ap₂ bit_or (or_parts n b) (sym (div-add-mod' c 2))
    ∙ or_block 1 (bit_or (n / 2) (b / 2)) (c / 2) (bit_or (n % 2) (b % 2)) (c % 2) (or_lt 1 (n % 2) (b % 2) (omega arith) (omega arith)) (omega arith)
    ∙ ap₂ (λ (x y : ℕ). x * 2 + y) (ih (b / 2) (c / 2)) (bits_assoc (n % 2) (b % 2) (c % 2) (omega arith) (omega arith) (omega arith))
    ∙ sym (or_block 1 (n / 2) (bit_or (b / 2) (c / 2)) (n % 2) (bit_or (b % 2) (c % 2)) (omega arith) (or_lt 1 (b % 2) (c % 2) (omega arith) (omega arith)))
    ∙ sym (ap₂ bit_or (sym (div-add-mod' n 2)) (or_parts b c)))
    a
