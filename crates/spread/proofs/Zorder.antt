-- The deposits of a cell's coordinates on the encoders' masks, OR'ed together, are its z-order: each mask is a comb with a tooth for every
-- level, at the place of its axis. Assumes nothing.
use Rattle.std.proofs.Common.{◌≡◌, ℕ, ◌*◌, ◌^◌, ◌<◌, ◌≤◌, sym, ap, ◌∙◌, subst, ap₂, lit<}
use lib.Bits.{bit_or}
use Rattle.rules.specs.Refusals.{top3}
use Rattle.rules.specs.Curve.{spread, level, cell2, cell3}
use Rattle.curve_laws.proofs.Or.{or_assoc}
use Rattle.curve_laws.proofs.Interleave.{stretch, deposited, mix, mix_level, mix_lt, or_mix, mix_one}
use Rattle.spread.specs.Interleaved.{Interleaved}

interleaved : (d order : ℕ) (c : ℕ → ℕ) {z : ℕ} → z ≡ mix d d order c → Interleaved d order c z
interleaved d order c e =
    record { at = λ k h. ap (level d k) e ∙ mix_level d order k c h; below = subst (λ (n : ℕ). n < 2 ^ (d * order)) (sym e) (mix_lt d order c) }

-- 2D, with masks of 32 teeth
pub zorder2 : (order x y : ℕ) {a b : ℕ} → order ≤ 32 → x < 2 ^ order → y < 2 ^ order
    → a ≡ spread 64 x 0xaaaa_aaaa_aaaa_aaaa → b ≡ spread 64 y 0x5555_5555_5555_5555 → Interleaved 2 order (cell2 x y) (bit_or a b)
zorder2 order x y {a} {b} o p q u v =
    let c : ℕ → ℕ = cell2 x y in
    let X : a ≡ stretch 2 order x * 2 ^ 1 = u ∙ deposited 2 1 32 0 0 order x (lit< tt) o p in
    let Y : b ≡ mix 1 2 order c = v ∙ deposited 2 0 32 0 0 order y (lit< tt) o q ∙ mix_one 2 order c in
    interleaved 2 order c (ap₂ bit_or X Y ∙ or_mix 1 2 order c (lit< tt))

-- 3D, with masks of 21 teeth below one place more, in which the lowest mask has another tooth
pub zorder3 : (order x y z : ℕ) {a b d : ℕ} → order ≤ top3 → x < 2 ^ order → y < 2 ^ order → z < 2 ^ order
    → a ≡ spread 64 x 0x4924_9249_2492_4924 → b ≡ spread 64 y 0x2492_4924_9249_2492 → d ≡ spread 64 z 0x9249_2492_4924_9249
    → Interleaved 3 order (cell3 x y z) (bit_or (bit_or a b) d)
zorder3 order x y z {a} {b} {d} o p q r u v w =
    let c : ℕ → ℕ = cell3 x y z in
    let X : a ≡ stretch 3 order x * 2 ^ 2 = u ∙ deposited 3 2 21 1 0 order x (lit< tt) o p in
    let Y : b ≡ stretch 3 order y * 2 ^ 1 = v ∙ deposited 3 1 21 1 0 order y (lit< tt) o q in
    let Z : d ≡ mix 1 3 order c = w ∙ deposited 3 0 21 1 1 order z (lit< tt) o r ∙ mix_one 3 order c in
    interleaved 3 order c
    (or_assoc a b d ∙ ap₂ bit_or X (ap₂ bit_or Y Z ∙ or_mix 1 3 order c (lit< tt)) ∙ or_mix 2 3 order c (lit< tt))
