-- Products and bounds of values that are not negative: how far a cell can lie. Assumes nothing.
use mathlib.Core.Path.{◌≡◌, refl, sym, ap, ◌∙◌, subst}
use Prim.Native.Nat.{ℕ, suc, ◌+◌, ◌*◌, ◌^◌, ◌≤◌, ◌<◌}
use native.Mathlib.Nat.{le_trans, le_of_eq, mul_comm, mul_right_comm, mul-mul-mul_comm, mul-le-mul_right, mul-le-mul_left, mul-lt-mul_of_pos_right, mul-pos}
use native.Mathlib.Omega.{arith}
use mathlib.Core.Bool.{Bool, true, false, not, ◌&&◌, cond, true≢false}
use lib.IntN.{pos}
use lib.Dec.{T, ltb, ltb→lt, lt→ltb, nltb→le}
use lib.Ieee.{Float, nan, inf, fin, Format, binary64, prec, emax, low, up, down, round, units, odd, mul, sub, le, lt}
use lib.Ieee.Fits.{round_is}
use lib.Ieee.Exact.{HasValue, odd_sign}
use lib.Ieee.Scale.{round_same, finite}
use lib.Ieee.Order.{round_mono, drop, kept}
use lib.Ieee.Positive.{num, den, den_pos, positive}
use Rattle.axis_laws.proofs.SubMono.{minus, gap, sub_is, weaken, false_of}
use Rattle.axis_laws.proofs.StepPattern.{upward}

-- finite, and not negative
abbrev pub nonneg : Float → Bool
nonneg nan = false
nonneg (inf s) = false
nonneg (fin s m e) = not s

pub positive_nonneg : (x : Float) → T (positive x) → T (nonneg x)
positive_nonneg nan p = absurd p
positive_nonneg (inf s) p = absurd p
positive_nonneg (fin true m e) p = absurd p
positive_nonneg (fin false m e) p = tt

pub nonneg_finite : (x : Float) → T (nonneg x) → T (finite x)
nonneg_finite nan p = absurd p
nonneg_finite (inf s) p = absurd p
nonneg_finite (fin s m e) p = tt

-- a rounded fraction is not negative
value_upward : (x : Float) (a c : ℕ) → HasValue x false a c → T (upward x)
value_upward nan a c h = absurd h
value_upward (inf s) a c h = absurd h
value_upward (fin true m e) a c h = absurd (true≢false h.0)
value_upward (fin false m e) a c h = tt

units_upward : (f : Format) (q k : ℕ) → T (upward (units f false q k))
unfolding units
units_upward f q k = go (ltb (q * 2 ^ k) (2 ^ (low f + suc (emax f))))
  where
    go : (b : Bool) → T (upward (cond b (odd (suc (prec f)) false q k (low f)) (inf false)))
    go true = value_upward (odd (suc (prec f)) false q k (low f)) (q * 2 ^ k) (2 ^ low f) (odd_sign (suc (prec f)) false q k (low f))
    go false = tt

pub round_upward : (f : Format) (a c : ℕ) → T (upward (round f false a c))
round_upward f a c = subst (λ (z : Float). T (upward z)) (sym (round_is f false a c)) (units_upward f (kept (prec f) (a * 2 ^ low f) c) (drop (prec f) (a * 2 ^ low f) c))

pub round-zero : (s : Bool) (c : ℕ) → 0 < c → round binary64 s 0 c ≡ fin s 0 (pos 0)
unfolding round
round-zero s c C = round_same binary64 s 0 c 0 1 C (omega arith) (omega arith) ∙ refl

-- the order
pub le→cross : (x y : Float) → T (nonneg x) → T (nonneg y) → T (le x y) → num x * den y ≤ num y * den x
unfolding le
le→cross (fin false m e) (fin false n d) p q h = weaken (m * up e * down d) (n * up d * down e) true h
le→cross (fin true m e) y p q h = absurd p
le→cross (fin false m e) (fin true n d) p q h = absurd q
le→cross nan y p q h = absurd p
le→cross (inf s) y p q h = absurd p
le→cross (fin false m e) nan p q h = absurd q
le→cross (fin false m e) (inf t) p q h = absurd q

pub lt→cross : (x y : Float) → T (nonneg x) → T (nonneg y) → T (lt x y) → num x * den y < num y * den x
unfolding lt
lt→cross (fin false m e) (fin false n d) p q h = ltb→lt (m * up e * down d) (n * up d * down e) h
lt→cross (fin true m e) y p q h = absurd p
lt→cross (fin false m e) (fin true n d) p q h = absurd q
lt→cross nan y p q h = absurd p
lt→cross (inf s) y p q h = absurd p
lt→cross (fin false m e) nan p q h = absurd q
lt→cross (fin false m e) (inf t) p q h = absurd q

pub cross→lt : (x y : Float) → T (nonneg x) → T (nonneg y) → num x * den y < num y * den x → T (lt x y)
unfolding lt
cross→lt (fin false m e) (fin false n d) p q h = lt→ltb (m * up e * down d) (n * up d * down e) h
cross→lt (fin true m e) y p q h = absurd p
cross→lt (fin false m e) (fin true n d) p q h = absurd q
cross→lt nan y p q h = absurd p
cross→lt (inf s) y p q h = absurd p
cross→lt (fin false m e) nan p q h = absurd q
cross→lt (fin false m e) (inf t) p q h = absurd q

-- what is at most a finite value, or below one, is finite
pub under : (x y : Float) → T (upward x) → T (nonneg y) → T (le x y) → T (nonneg x)
unfolding le
under nan y p q h = absurd p
under (inf true) y p q h = absurd p
under (inf false) nan p q h = absurd q
under (inf false) (inf t) p q h = absurd q
under (inf false) (fin t n d) p q h = absurd h
under (fin s m e) y p q h = p

pub below : (x y : Float) → T (upward x) → T (nonneg y) → T (lt x y) → T (nonneg x)
unfolding lt
below nan y p q h = absurd p
below (inf true) y p q h = absurd p
below (inf false) nan p q h = absurd q
below (inf false) (inf t) p q h = absurd q
below (inf false) (fin t n d) p q h = absurd h
below (fin s m e) y p q h = p

-- x / p ≤ y / q < z / r
chain : (x y z p q r : ℕ) → 0 < p → 0 < q → x * q ≤ y * p → y * r < z * q → x * r < z * p
chain x y z p q r P Q h k = go (ltb (x * r) (z * p)) (ltb→lt (x * r) (z * p)) (nltb→le (x * r) (z * p))
  where
    go : (b : Bool) → (T b → x * r < z * p) → (T (not b) → z * p ≤ x * r) → x * r < z * p
    go true a b = a tt
    go false a b =
        let u : z * p * q ≤ x * r * q = mul-le-mul_right q (b tt) in
        let v : x * q * r ≤ y * p * r = mul-le-mul_right r h in
        let w : y * r * p < z * q * p = mul-lt-mul_of_pos_right k P in
        omega (arith, mul_right_comm x r q, mul_right_comm y r p, mul_right_comm z p q)

pub le_lt : (x y z : Float) → T (nonneg x) → T (nonneg y) → T (nonneg z) → T (le x y) → T (lt y z) → T (lt x z)
le_lt x y z p q r h k = cross→lt x z p r (chain (num x) (num y) (num z) (den x) (den y) (den z) (den_pos x) (den_pos y) (le→cross x y p q h) (lt→cross y z q r k))

-- the product
pub mul_is : (f : Format) (x y : Float) → T (nonneg x) → T (nonneg y) → mul f x y ≡ round f false (num x * num y) (den x * den y)
unfolding mul
mul_is f (fin false m e) (fin false n d) p q = refl
mul_is f (fin true m e) y p q = absurd p
mul_is f (fin false m e) (fin true n d) p q = absurd q
mul_is f nan y p q = absurd p
mul_is f (inf s) y p q = absurd p
mul_is f (fin false m e) nan p q = absurd q
mul_is f (fin false m e) (inf t) p q = absurd q

pub mul_upward : (f : Format) (x y : Float) → T (nonneg x) → T (nonneg y) → T (upward (mul f x y))
mul_upward f x y p q = subst (λ (z : Float). T (upward z)) (sym (mul_is f x y p q)) (round_upward f (num x * num y) (den x * den y))

pub mul_comm_nonneg : (f : Format) (x y : Float) → T (nonneg x) → T (nonneg y) → mul f x y ≡ mul f y x
mul_comm_nonneg f x y p q =
    mul_is f x y p q ∙ ap (λ (a : ℕ). round f false a (den x * den y)) (mul_comm (num x) (num y)) ∙ ap (λ (c : ℕ). round f false (num y * num x) c) (mul_comm (den x) (den y)) ∙ sym (mul_is f y x q p)

pub mul_mono : (f : Format) (x y y' : Float) → T (nonneg x) → T (nonneg y) → T (nonneg y') → T (le y y') → T (le (mul f x y) (mul f x y'))
mul_mono f x y y' p q r h =
    subst (λ (z : Float). T (le z (mul f x y'))) (sym (mul_is f x y p q))
    (subst (λ (z : Float). T (le (round f false (num x * num y) (den x * den y)) z)) (sym (mul_is f x y' p r))
    (round_mono f (num x * num y) (den x * den y) (num x * num y') (den x * den y') (mul-pos (den_pos x) (den_pos y)) (mul-pos (den_pos x) (den_pos y'))
    (le_trans (le_of_eq (mul-mul-mul_comm (num x) (num y) (den x) (den y')))
    (le_trans (mul-le-mul_left (num x * den x) (le→cross y y' q r h)) (le_of_eq (mul-mul-mul_comm (num x) (den x) (num y') (den y)))))))

-- a difference is not negative, or is -0
zero_gap : (x y : Float) → T (finite x) → T (finite y) → T (minus x && not (minus y)) → gap x y ≡ 0
zero_gap (fin true m e) (fin false n d) p q t = omega arith
zero_gap (fin true m e) (fin true n d) p q t = absurd t
zero_gap (fin false m e) y p q t = absurd t
zero_gap nan y p q t = absurd p
zero_gap (inf s) y p q t = absurd p
zero_gap (fin true m e) nan p q t = absurd q
zero_gap (fin true m e) (inf t) p q h = absurd q

pub true_of : (b : Bool) → T b → b ≡ true
true_of true t = refl
true_of false t = absurd t

pub data Difference (x : Float) (y : Float) : Type 0 where
  up_to : T (not (minus x && not (minus y))) → T (upward (sub binary64 x y)) → Difference x y
  minus_zero : gap x y ≡ 0 → sub binary64 x y ≡ fin true 0 (pos 0) → Difference x y

pub difference : (x y : Float) → T (finite x) → T (finite y) → T (le y x) → Difference x y
difference x y p q h = go (minus x && not (minus y)) (false_of (minus x && not (minus y))) (λ (t : T (minus x && not (minus y))). t) (λ (t : T (not (minus x && not (minus y)))). t)
  where
    go : (b : Bool) → (T (not (minus x && not (minus y))) → minus x && not (minus y) ≡ false) → (T b → T (minus x && not (minus y))) → (T (not b) → T (not (minus x && not (minus y)))) → Difference x y
    go true e t u =
        minus_zero (zero_gap x y p q (t tt))
        (sub_is binary64 x y p q h
        ∙ ap (λ (b : Bool). round binary64 b (gap x y) (den x * den y)) (true_of (minus x && not (minus y)) (t tt))
        ∙ ap (λ (a : ℕ). round binary64 true a (den x * den y)) (zero_gap x y p q (t tt))
        ∙ round-zero true (den x * den y) (mul-pos (den_pos x) (den_pos y)))
    go false e t u =
        up_to (u tt)
        (subst (λ (z : Float). T (upward z)) (sym (sub_is binary64 x y p q h ∙ ap (λ (b : Bool). round binary64 b (gap x y) (den x * den y)) (e (u tt))))
        (round_upward binary64 (gap x y) (den x * den y)))
