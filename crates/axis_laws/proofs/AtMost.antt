-- The order of finite values is that of the fractions they stand for, so it is total and transitive: what is not less is at most. Assumes nothing.
use mathlib.Core.Path.{◌≡◌, refl, sym, subst}
use mathlib.Core.Logic.{inl, inr}
use Prim.Native.Nat.{ℕ, ◌+◌, ◌*◌, ◌≤◌, ◌<◌}
use native.Mathlib.Nat.{le_of_mul-le-mul_right, mul-le-mul_right, mul_right_comm, add-mul, eq-zero-or-pos, eq-or-lt_of_le}
use native.Mathlib.Omega.{arith}
use mathlib.Core.Bool.{Bool, true, false, not, ◌&&◌, ◌||◌, true≢false}
use lib.Dec.{T, ltb, eqb, ltb→lt, lt→ltb, nltb→le}
use borrow.Author.Tests.{le-ltb}
use lib.Ieee.{Float, nan, inf, fin, up, down, le, lt}
use lib.Ieee.Fits.{eq→eqb}
use lib.Ieee.Scale.{finite}
use lib.Ieee.Positive.{den, den_pos, positive}
use Rattle.axis_laws.proofs.SubMono.{plus, less, le→signed}
use Rattle.axis_laws.proofs.StepPattern.{upward}

-- from false tests on numbers that are no NaN to the other test
or_l : (a b : Bool) → T a → T (a || b)
or_l true b t = tt
or_l false b t = absurd t

or_r : (a b : Bool) → T b → T (a || b)
or_r true b t = tt
or_r false b t = t

and_i : (a b : Bool) → T a → T b → T (a && b)
and_i true b t u = u
and_i false b t u = t

of_le : (a b : ℕ) → a ≤ b → T (ltb a b || (eqb a b && true))
of_le a b h = elim (eq-or-lt_of_le h) [ inl p ↦ or_r (ltb a b) (eqb a b && true) (and_i (eqb a b) true (eq→eqb p) tt) | inr q ↦ or_l (ltb a b) (eqb a b && true) (lt→ltb a b q) ]

of_le' : (a b : ℕ) → a ≤ b → T (ltb a b || (eqb b a && true))
of_le' a b h = elim (eq-or-lt_of_le h) [ inl p ↦ or_r (ltb a b) (eqb b a && true) (and_i (eqb b a) true (eq→eqb (sym p)) tt) | inr q ↦ or_l (ltb a b) (eqb b a && true) (lt→ltb a b q) ]

zeros : (a b : ℕ) → a + b ≡ 0 → T (eqb b a && eqb b 0)
zeros a b h = let p : b ≡ a = omega arith in let q : b ≡ 0 = omega arith in and_i (eqb b a) (eqb b 0) (eq→eqb p) (eq→eqb q)

any : (a b : ℕ) → T (ltb 0 (b + a) || (eqb b a && eqb b 0))
any a b = elim (eq-zero-or-pos (b + a)) [ inl z ↦ or_r (ltb 0 (b + a)) (eqb b a && eqb b 0) (zeros a b (omega arith)) | inr p ↦ or_l (ltb 0 (b + a)) (eqb b a && eqb b 0) (lt→ltb 0 (b + a) p) ]

not-lt : (a b : ℕ) → ltb a b ≡ false → b ≤ a
not-lt a b e = nltb→le a b (subst (λ (t : Bool). T (not t)) (sym e) tt)

pub nlt→le : (x y : Float) → T (finite x) → T (finite y) → lt x y ≡ false → T (le y x)
unfolding le
nlt→le (fin false m e) (fin false n d) p q h = of_le (n * up d * down e) (m * up e * down d) (not-lt (m * up e * down d) (n * up d * down e) h)
nlt→le (fin false m e) (fin true n d) p q h = any (m * up e * down d) (n * up d * down e)
nlt→le (fin true m e) (fin false n d) p q h =
    let k = not-lt 0 (m * up e * down d + n * up d * down e) h in
    zeros (m * up e * down d) (n * up d * down e) (omega arith)
nlt→le (fin true m e) (fin true n d) p q h = of_le' (m * up e * down d) (n * up d * down e) (not-lt (n * up d * down e) (m * up e * down d) h)
nlt→le nan y p q h = absurd p
nlt→le (inf s) y p q h = absurd p
nlt→le (fin s m e) nan p q h = absurd q
nlt→le (fin s m e) (inf t) p q h = absurd q

strict : (a b : ℕ) → (ltb a b || (eqb a b && true)) ≡ false → b < a
strict a b h = go (ltb b a) (ltb→lt b a) (nltb→le b a)
  where
    go : (t : Bool) → (T t → b < a) → (T (not t) → a ≤ b) → b < a
    go true k l = k tt
    go false k l = absurd (subst T h (of_le a b (l tt)))

pub nle→lt : (n y : Float) → T (positive n) → T (upward y) → le n y ≡ false → T (lt y n)
unfolding le
nle→lt (fin false m e) (fin false k d) p q h = lt→ltb (k * up d * down e) (m * up e * down d) (strict (m * up e * down d) (k * up d * down e) h)
nle→lt (fin false m e) nan p q h = absurd q
nle→lt (fin false m e) (inf true) p q h = absurd q
nle→lt (fin false m e) (inf false) p q h = absurd (true≢false h)
nle→lt (fin false m e) (fin true k d) p q h = absurd q
nle→lt nan y p q h = absurd p
nle→lt (inf s) y p q h = absurd p
nle→lt (fin true m e) y p q h = absurd p

-- x ≤ y, of the fractions (plus - less) / den
abbrev pub at_most : Float → Float → Type 0
at_most x y = plus x * den y + less y * den x ≤ plus y * den x + less x * den y

pub at_most_itself : (x : Float) → at_most x x
at_most_itself x = omega arith

pub nlt→at_most : (x y : Float) → T (finite x) → T (finite y) → lt x y ≡ false → at_most y x
nlt→at_most x y p q h = le→signed y x q p (nlt→le x y p q h)

pub lt→at_most : (x y : Float) → T (finite x) → T (finite y) → lt x y ≡ true → at_most x y
unfolding le
lt→at_most x y p q h = le→signed x y p q (or_l (lt x y) _ (subst T (sym h) tt))

pub at_most→nlt : (x y : Float) → T (finite x) → T (finite y) → at_most y x → lt x y ≡ false
unfolding lt
at_most→nlt (fin false m e) (fin false n d) p q h = le-ltb (m * up e * down d) (n * up d * down e) (omega arith)
at_most→nlt (fin false m e) (fin true n d) p q h = refl
at_most→nlt (fin true m e) (fin false n d) p q h = le-ltb 0 (m * up e * down d + n * up d * down e) (omega arith)
at_most→nlt (fin true m e) (fin true n d) p q h = le-ltb (n * up d * down e) (m * up e * down d) (omega arith)
at_most→nlt nan y p q h = absurd p
at_most→nlt (inf s) y p q h = absurd p
at_most→nlt (fin s m e) nan p q h = absurd q
at_most→nlt (fin s m e) (inf t) p q h = absurd q

-- (a - b) / c ≤ (a' - b') / c' ≤ (x - y) / z
through : (a b c a' b' c' x y z : ℕ) → 0 < c' → a * c' + b' * c ≤ a' * c + b * c' → a' * z + y * c' ≤ x * c' + b' * z → a * z + y * c ≤ x * c + b * z
through a b c a' b' c' x y z p h k =
    let u : (a * c' + b' * c) * z ≤ (a' * c + b * c') * z = mul-le-mul_right z h in
    let v : (a' * z + y * c') * c ≤ (x * c' + b' * z) * c = mul-le-mul_right c k in
    let w : (a * z + y * c) * c' ≤ (x * c + b * z) * c' =
    omega (
      arith,
      add-mul (a * c') (b' * c) z,
      add-mul (a' * c) (b * c') z,
      add-mul (a' * z) (y * c') c,
      add-mul (x * c') (b' * z) c,
      add-mul (a * z) (y * c) c',
      add-mul (x * c) (b * z) c',
      mul_right_comm a c' z,
      mul_right_comm b' c z,
      mul_right_comm a' c z,
      mul_right_comm b c' z,
      mul_right_comm y c' c,
      mul_right_comm x c' c,
    ) in
    le_of_mul-le-mul_right w p

pub at_most_trans : (x y z : Float) → at_most x y → at_most y z → at_most x z
at_most_trans x y z h k = through (plus x) (less x) (den x) (plus y) (less y) (den y) (plus z) (less z) (den z) (den_pos y) h k
