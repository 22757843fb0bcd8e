-- The masks of the z-order are combs: in 2D every second bit, in 3D every third, from the place of an axis. What five steps make of a source is
-- its deposit onto the comb from place 0, and a shift makes of that the deposit onto the others. Assumes nothing.
use Rattle.std.proofs.Common.{◌≡◌, ℕ, ◌*◌, ◌%◌, ◌^◌, refl, ap, ◌∙◌, lit<}
use Rattle.rules.specs.Curve.{bit, deposit_of}
use Rattle.curve_laws.proofs.Interleave.{stretch}
use Rattle.curve_laws.proofs.OntoCombs.{on_first, on_other, on_tooth}

shifted : (e : ℕ) {r a b : ℕ} → r ≡ a → a * 2 ^ e % 2 ^ 64 ≡ b → r * 2 ^ e % 2 ^ 64 ≡ b
shifted e p q = ap (λ (n : ℕ). n * 2 ^ e % 2 ^ 64) p ∙ q

-- 2D
pub every_second : (s : ℕ) → stretch 2 32 s % 2 ^ 64 ≡ deposit_of s 0x5555_5555_5555_5555
every_second s = on_first 2 32 0 s refl _ (lit< tt) refl

pub x_of_2 : (s : ℕ) {r : ℕ} → r ≡ deposit_of s 0x5555_5555_5555_5555 → r * 2 ^ 1 % 2 ^ 64 ≡ deposit_of s 0xaaaa_aaaa_aaaa_aaaa
x_of_2 s p = shifted 1 p (on_other 2 32 0 s refl 1 _ _ (lit< tt) refl refl)

-- 3D
pub every_third : (s : ℕ) → stretch 3 32 s % 2 ^ 64 ≡ deposit_of s 0x9249_2492_4924_9249
every_third s = on_first 3 32 32 s refl _ (lit< tt) refl

pub y_of_3 : (s : ℕ) {r : ℕ} → r ≡ deposit_of s 0x9249_2492_4924_9249 → r * 2 ^ 1 % 2 ^ 64 ≡ deposit_of s 0x2492_4924_9249_2492
y_of_3 s p = shifted 1 p (on_other 3 32 32 s refl 1 _ _ (lit< tt) refl refl)

pub x_of_3 : (s : ℕ) {r : ℕ} → r ≡ deposit_of s 0x9249_2492_4924_9249 → r * 2 ^ 2 % 2 ^ 64 ≡ deposit_of s 0x4924_9249_2492_4924
x_of_3 s p = shifted 2 p (on_other 3 32 32 s refl 2 _ _ (lit< tt) refl refl)

-- z's mask has a tooth more than the other two: the 22nd, at the top
pub bit_21_at_63 : (s : ℕ) → bit 63 (deposit_of s 0x9249_2492_4924_9249) ≡ bit 21 s
bit_21_at_63 s = on_tooth 3 32 32 s refl 0 _ 21 (lit< tt) refl (lit< tt) (lit< tt)
