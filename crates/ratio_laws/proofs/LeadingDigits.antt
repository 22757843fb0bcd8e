-- The leading binary digits of a quotient round as the quotient does, if the last of them tells whether something is left: between two even
-- numbers, far from zero, all fractions round alike. Assumes nothing.
use Prim.Native.Nat.{ℕ, suc, ◌+◌, ◌-◌, ◌*◌, ◌/◌, ◌%◌, ◌^◌, ◌≤◌, ◌<◌, compare, Ordering}
use mathlib.Core.Path.{◌≡◌, refl, sym, ap, ◌∙◌, subst}
use mathlib.Core.Logic.{◌⊎◌, inl, inr}
use mathlib.Core.Bool.{Bool, true, false, true≢false}
use native.Mathlib.Nat.{le_antisymm, le_of_lt, suc-add, add-zero, two-pow-succ, le_trans, le_of_eq, lt_of_lt_of_le, lt_of_not-le, not-le_of_lt, zero-lt-suc, mul-one, mul_comm, mul_assoc, mul_left_comm, mul_right_comm, add-mul, suc-mul, mul-le-mul_right, mul-lt-mul_of_pos_right, mul-pos, le-div_iff_mul-le, div-lt_iff_lt-mul, div-add-mod', mod-lt}
use native.Mathlib.Omega.{arith}
use lib.Dec.{ltb, is_le, compare_is_eq}
use lib.Arith.{digits_div, digits_mod}
use lib.Pow.{pow-add, pow_pos, pow_mono}
use lib.Ieee.{Format, prec, low, size, nearest}
use lib.Ieee.Digits.{size-lt, size-le, size_reaches}
use lib.Ieee.Nearest.{closest, closest_same}
use lib.Ieee.Order.{drop}
use lib.Ieee.Scale.{grid}
use Rattle.ratio_laws.proofs.Again.{grid_same}
use borrow.Author.Tests.{le-leb, lt-leb, ltb-true, ltb-false, ne_eqb}

compare-lt : (a b : ℕ) → a < b → compare a b ≡ Ordering.lt
compare-lt a b h = go (compare a b) (le-leb a b (omega arith)) (ne_eqb a b (λ e. omega arith))
  where
    go : (o : Ordering) → is_le o ≡ true → compare_is_eq o ≡ false → o ≡ Ordering.lt
    go Ordering.lt p q = refl
    go Ordering.eq p q = absurd (true≢false q)
    go Ordering.gt p q = absurd (true≢false (sym p))

compare-gt : (a b : ℕ) → b < a → compare a b ≡ Ordering.gt
compare-gt a b h = go (compare a b) (lt-leb a b h)
  where
    go : (o : Ordering) → is_le o ≡ false → o ≡ Ordering.gt
    go Ordering.lt p = absurd (true≢false p)
    go Ordering.eq p = absurd (true≢false p)
    go Ordering.gt p = refl

abbrev side : Bool → Ordering
side true = Ordering.lt
side false = Ordering.gt

-- where h stands among the multiples of 2 * m, and on which side of the half
abbrev middle : ℕ → ℕ → ℕ
middle h m = nearest (h / (2 * m)) (side (ltb (h % (2 * m)) m))

-- a lies strictly between 2 * H and 2 * H + 2 * b; H is 2 * W + Y
module _ (a b H W Y X : ℕ) (e : H ≡ 2 * W + Y) (lo : 2 * H < a) (hi : a < 2 * H + 2 * b) where
  all : a ≡ 4 * W + (a - 4 * W)
  all = omega arith

  within : Y + b ≤ 2 * X → a - 4 * W < 4 * X
  within h = omega arith

  under : Y + b ≤ X → (a - 4 * W) * 2 < 4 * X
  under h = omega arith

  over : X ≤ Y → 4 * X < (a - 4 * W) * 2
  over h = omega arith

closest_middle : (a b h m : ℕ) → 0 < m → 2 * h * b < a → a < (2 * h + 2) * b → closest a (b * (4 * m)) ≡ middle h m
closest_middle a b h m M lo hi =
    ap (λ (z : ℕ). nearest z (compare (a % u * 2) u)) (ap (λ (z : ℕ). z / u) is ∙ digits_div w small)
    ∙ ap (λ (z : ℕ). nearest w (compare (z * 2) u)) (ap (λ (z : ℕ). z % u) is ∙ digits_mod w small)
    ∙ ap (λ (z : Ordering). nearest w z) (go (ltb v m) (ltb-true v m) (ltb-false v m))
  where
    w : ℕ
    w = h / (2 * m)

    v : ℕ
    v = h % (2 * m)

    u : ℕ
    u = b * (4 * m)

    W : ℕ
    W = w * (m * b)

    parts : h * b ≡ 2 * W + v * b
    parts = ap (λ (z : ℕ). z * b) (sym (div-add-mod' h (2 * m))) ∙ add-mul (w * (2 * m)) v b ∙ ap (λ (z : ℕ). z + v * b) (simp (mul_assoc, mul_comm, mul_left_comm))

    low' : 2 * (h * b) < a
    low' = subst (λ (z : ℕ). z < a) (mul_assoc 2 h b) lo

    high' : a < 2 * (h * b) + 2 * b
    high' = subst (λ (z : ℕ). a < z) (add-mul (2 * h) 2 b ∙ ap (λ (z : ℕ). z + 2 * b) (mul_assoc 2 h b)) hi

    whole : w * u ≡ 4 * W
    whole = simp (mul_assoc, mul_comm, mul_left_comm)

    unit : 4 * (m * b) ≡ u
    unit = simp (mul_comm, mul_left_comm)

    r : ℕ
    r = a - 4 * W

    is : a ≡ w * u + r
    is = all a b (h * b) W (v * b) (m * b) parts low' high' ∙ ap (λ (z : ℕ). z + r) (sym whole)

    next : (n : ℕ) → v < n → v * b + b ≤ n * b
    next n l = le_trans (le_of_eq (sym (suc-mul v b))) (mul-le-mul_right b l)

    small : r < u
    small = subst (λ (z : ℕ). r < z) unit (within a b (h * b) W (v * b) (m * b) parts low' high' (le_trans (next (2 * m) (mod-lt h (twice M))) (le_of_eq (mul_assoc 2 m b))))
      where
        twice : {n : ℕ} → 0 < n → 0 < 2 * n
        twice l = omega arith

    go : (t : Bool) → (t ≡ true → v < m) → (t ≡ false → m ≤ v) → compare (r * 2) u ≡ side t
    go true p q = compare-lt (r * 2) u (subst (λ (z : ℕ). r * 2 < z) unit (under a b (h * b) W (v * b) (m * b) parts low' high' (next m (p refl))))
    go false p q = compare-gt (r * 2) u (subst (λ (z : ℕ). z < r * 2) unit (over a b (h * b) W (v * b) (m * b) parts low' high' (mul-le-mul_right b (q refl))))

size-gt : (n j : ℕ) → 2 ^ j ≤ n → j < size n
size-gt n j h = lt_of_not-le (λ (g : size n ≤ j). not-le_of_lt (lt_of_lt_of_le (size-lt n) (pow_mono g)) h)

pub size_is : (n j : ℕ) → 2 ^ j ≤ n → n < 2 ^ suc j → size n ≡ suc j
size_is n j lo hi = le_antisymm (size-le n (suc j) hi) (size-gt n j lo)

-- how many digits of a number are dropped, but for one
abbrev spare : Format → ℕ → ℕ
spare f h = size h - prec f - 1

split : (z p : ℕ) → p < z → z ≡ p + suc (z - p - 1)
split z p h = omega arith

dropped : (z p l t : ℕ) → z ≡ p + suc t → suc (z + l) - p ≡ l + (t + 2)
dropped z p l t h = omega arith

twice_le : (p h : ℕ) → p ≤ h → p + p ≤ 2 * h
twice_le p h l = omega arith

next_even : (p h : ℕ) → h < p → 2 * h + 2 ≤ p + p
next_even p h l = omega arith

pred_is : (z p : ℕ) → p < z → z ≡ suc (z - 1)
pred_is z p h = omega arith

pred_lt : (z p : ℕ) → p < z → z - 1 < z
pred_lt z p h = omega arith

fourfold : (l t : ℕ) → 2 ^ (l + (t + 2)) ≡ 2 ^ l * (4 * 2 ^ t)
fourfold l t = pow-add 2 l (t + 2) ∙ ap (λ (z : ℕ). 2 ^ l * z) (pow-add 2 t 2 ∙ mul_comm (2 ^ t) 4)

shuffle : (a l b c : ℕ) → a * l * (b * c) ≡ a * (b * (l * c))
shuffle a l b c = simp (mul_assoc, mul_left_comm)

-- the rounded value of a fraction between 2 * h and 2 * h + 2
abbrev round_middle : Format → ℕ → ℕ
round_middle f h = middle h (2 ^ spare f h) * 2 ^ (low f + (spare f h + 2))

grid_middle : (f : Format) (a b h : ℕ) → 0 < b → 2 ^ prec f ≤ h → 2 * h * b < a → a < (2 * h + 2) * b → grid f a b ≡ round_middle f h
grid_middle f a b h B big lo hi =
    ap (λ (z : ℕ). closest (a * l) (b * 2 ^ z) * 2 ^ z) drops
    ∙ ap (λ (z : ℕ). z * 2 ^ (low f + (t + 2)))
    (closest_same (a * l) (b * 2 ^ (low f + (t + 2))) a (b * (4 * 2 ^ t)) (mul-pos B (pow_pos (low f + (t + 2)))) (mul-pos B (mul-pos (zero-lt-suc 3) (pow_pos t)))
    (shuffle a l b (4 * 2 ^ t) ∙ ap (λ (z : ℕ). a * (b * z)) (sym (fourfold (low f) t)))
    ∙ closest_middle a b h (2 ^ t) (pow_pos t) lo hi)
  where
    l : ℕ
    l = 2 ^ low f

    z : ℕ
    z = size h

    t : ℕ
    t = spare f h

    more : prec f < z
    more = size-gt h (prec f) big

    from : 2 ^ z ≤ 2 * h
    from = le_trans (le_of_eq (ap (λ (x : ℕ). 2 ^ x) (pred_is z (prec f) more) ∙ two-pow-succ (z - 1))) (twice_le (2 ^ (z - 1)) h (size_reaches h (z - 1) (pred_lt z (prec f) more)))

    to : 2 * h + 2 ≤ 2 ^ suc z
    to = le_trans (next_even (2 ^ z) h (size-lt h)) (le_of_eq (sym (two-pow-succ z)))

    least : 2 ^ (z + low f) ≤ a * l / b
    least =
        (le-div_iff_mul-le B).1
        (le_trans (le_of_eq (ap (λ (x : ℕ). x * b) (pow-add 2 z (low f)) ∙ mul_right_comm (2 ^ z) l b))
        (mul-le-mul_right l (le_trans (mul-le-mul_right b from) (le_of_lt lo))))

    most : a * l / b < 2 ^ suc (z + low f)
    most =
        (div-lt_iff_lt-mul B).1
        (lt_of_lt_of_le (mul-lt-mul_of_pos_right (lt_of_lt_of_le hi (mul-le-mul_right b to)) (pow_pos (low f)))
        (le_of_eq (mul_right_comm (2 ^ suc z) b l ∙ ap (λ (x : ℕ). x * b) (sym (pow-add 2 (suc z) (low f)) ∙ ap (λ (x : ℕ). 2 ^ x) (suc-add z (low f))))))

    drops : drop (prec f) (a * l) b ≡ low f + (t + 2)
    drops = ap (λ (x : ℕ). x - prec f) (size_is (a * l / b) (z + low f) least most) ∙ dropped z (prec f) (low f) t (split z (prec f) more)

-- c is q, or odd beside an even q that is too low
abbrev pub MarkedBy : ℕ → ℕ → ℕ → Type 0
MarkedBy q r c = ((r ≡ 0) × (c ≡ q)) ⊎ ((0 < r) × (c ≡ 2 * (q / 2) + 1))

half_big : (p q : ℕ) → p + p ≤ q → p ≤ q / 2
half_big p q h = omega arith

above_even : (b q r a : ℕ) → 0 < r → a ≡ q * b + r → 2 * (q / 2) * b < a
above_even b q r a R e =
    let k : 2 * (q / 2) * b ≤ q * b = mul-le-mul_right b (half q) in omega arith
  where
    half : (q : ℕ) → 2 * (q / 2) ≤ q
    half q = omega arith

below_even : (b q r a : ℕ) → r < b → a ≡ q * b + r → a < (2 * (q / 2) + 2) * b
below_even b q r a R e =
    let k : suc q * b ≤ (2 * (q / 2) + 2) * b = mul-le-mul_right b (half q) in
    let n : suc q * b ≡ q * b + b = suc-mul q b in
    omega arith
  where
    half : (q : ℕ) → suc q ≤ 2 * (q / 2) + 2
    half q = omega arith

-- q with the rest r is a / b, and c is q, marked by r
pub leading_digits : (f : Format) (a b q r c : ℕ) → a ≡ q * b + r → r < b → 2 ^ suc (prec f) ≤ q → MarkedBy q r c → grid f a b ≡ grid f c 1
leading_digits f a b q r c e R big (inl h) = grid_same f a b c 1 (omega arith) (omega arith) (mul-one a ∙ e ∙ rw (h.0, h.1) (add-zero (q * b)))
leading_digits f a b q r c e R big (inr h) =
    let g : 2 ^ prec f ≤ q / 2 = half_big (2 ^ prec f) q (le_trans (le_of_eq (sym (two-pow-succ (prec f)))) big) in
    grid_middle f a b (q / 2) (omega arith) g (above_even b q r a h.0 e) (below_even b q r a R e)
    ∙ sym (grid_middle f c 1 (q / 2) (omega arith) g (lo h.1) (hi h.1))
  where
    lo : c ≡ 2 * (q / 2) + 1 → 2 * (q / 2) * 1 < c
    lo k = omega arith

    hi : c ≡ 2 * (q / 2) + 1 → c < (2 * (q / 2) + 2) * 1
    hi k = omega arith
