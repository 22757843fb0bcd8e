-- One turn of a loop that goes through the levels from the top: what is done, shifted up by the levels to come, and what is to come make
-- the whole, before the turn and after it. Assumes nothing.
use Prim.Native.Nat.{ℕ, zero, suc, ◌+◌, ◌-◌, ◌*◌, ◌^◌, ◌≤◌, ◌<◌}
use mathlib.Core.Path.{◌≡◌, sym, ap, ◌∙◌, subst}
use native.Mathlib.Omega.{arith}
use native.Mathlib.Nat.{mul_assoc, mul-zero, add-mul, add_assoc, pow-suc, mul_comm, le-mul_of_pos_right}
use lib.Pow.{pow_pos, pow-add}
use Rattle.rules.specs.Curve.{Machine, bit, encode, undo, decode}
use Rattle.curve_laws.proofs.Parts.{more}

-- what is done, shifted up, and what is to come
join : (X D Q P R : ℕ) → X * (Q * P) + (D * P + R) ≡ (X * Q + D) * P + R
join X D Q P R =
    sym (add_assoc (X * (Q * P)) (D * P) R)
    ∙ ap (λ (n : ℕ). n + R) (ap (λ (n : ℕ). n + D * P) (sym (mul_assoc X Q P)) ∙ sym (add-mul (X * Q) D P))

pub encode_turn : {d : ℕ} (M : Machine d) (left s X : ℕ) (f : ℕ → ℕ) → 0 < left
    → X * 2 ^ (d * left) + encode M left s f
    ≡ (X * 2 ^ d + M.digit s (f (left - 1))) * 2 ^ (d * (left - 1)) + encode M (left - 1) (M.next s (f (left - 1))) f
unfolding encode
encode_turn M zero s X f h = absurd (omega arith)
encode_turn {d} M (suc k) s X f h =
    let e : suc k - 1 ≡ k = omega arith in
    ap (λ (n : ℕ). X * n + encode M (suc k) s f) (ap (λ (n : ℕ). 2 ^ n) (sym (more d k)) ∙ pow-add 2 d (d * k))
    ∙ join X (M.digit s (f k)) (2 ^ d) (2 ^ (d * k)) (encode M k (M.next s (f k)) f)
    ∙ ap (λ (n : ℕ). (X * 2 ^ d + M.digit s (f n)) * 2 ^ (d * n) + encode M n (M.next s (f n)) f) (sym e)

pub decode_turn : {d : ℕ} (M : Machine d) (e left s X : ℕ) (g : ℕ → ℕ) → 0 < left
    → X * 2 ^ left + decode M e left s g
    ≡ (2 * X + bit e (undo M s (g (left - 1)))) * 2 ^ (left - 1) + decode M e (left - 1) (M.next s (undo M s (g (left - 1)))) g
unfolding decode
decode_turn M e zero s X g h = absurd (omega arith)
decode_turn M e (suc k) s X g h =
    let i : suc k - 1 ≡ k = omega arith in
    let p : 2 ^ suc k ≡ 2 * 2 ^ k = omega (arith, pow-suc 2 k) in
    ap (λ (n : ℕ). X * n + decode M e (suc k) s g) p
    ∙ join X (bit e (undo M s (g k))) 2 (2 ^ k) (decode M e k (M.next s (undo M s (g k))) g)
    ∙ ap (λ (n : ℕ). (n + bit e (undo M s (g k))) * 2 ^ k + decode M e k (M.next s (undo M s (g k))) g) (mul_comm X 2)
    ∙ ap (λ (n : ℕ). (2 * X + bit e (undo M s (g n))) * 2 ^ n + decode M e n (M.next s (undo M s (g n))) g) (sym i)

-- what is done is at most the whole
pub at_most : (X k R N : ℕ) → X * 2 ^ k + R ≡ N → X ≤ N
at_most X k R N e = omega (arith, le-mul_of_pos_right X (pow_pos k))

-- before the first turn nothing is done, after the last one all of it is
pub nothing_done : (P N : ℕ) → 0 * P + N ≡ N
nothing_done P N = omega arith

pub all_encoded : {d : ℕ} (M : Machine d) (left s : ℕ) (f : ℕ → ℕ) (X N : ℕ) → left ≤ 0 → X * 2 ^ (d * left) + encode M left s f ≡ N → X ≡ N
unfolding encode
all_encoded {d} M left s f X N h i =
    let z : left ≡ 0 = omega arith in
    let y : d * left ≡ 0 = ap (λ (n : ℕ). d * n) z ∙ mul-zero d in
    let j : X * 2 ^ 0 + 0 ≡ N = subst (λ (n : ℕ). X * 2 ^ n + 0 ≡ N) y (subst (λ (n : ℕ). X * 2 ^ (d * left) + encode M n s f ≡ N) z i) in
    omega arith

pub all_decoded : {d : ℕ} (M : Machine d) (e left s : ℕ) (g : ℕ → ℕ) (X N : ℕ) → left ≤ 0 → X * 2 ^ left + decode M e left s g ≡ N → X ≡ N
unfolding decode
all_decoded M e left s g X N h i =
    let z : left ≡ 0 = omega arith in
    let j : X * 2 ^ 0 + 0 ≡ N = subst (λ (n : ℕ). X * 2 ^ n + decode M e n s g ≡ N) z i in
    omega arith
