-- The roundings of a cell, one after the other: each moves what it rounds by one part in 2^52 at most, so five of them move a number of at most
-- n by less than 6 * n parts. In whole numbers of units; s units are 1. Assumes nothing.
use mathlib.Core.Path.{◌≡◌, refl, sym, ap, ap₂, ◌∙◌}
use mathlib.Core.Logic.{◌⊎◌, inl, inr}
use Prim.Native.Nat.{ℕ, zero, suc, ◌+◌, ◌-◌, ◌*◌, ◌^◌, ◌≤◌, ◌<◌}
use native.Mathlib.Nat.{le_trans, le_of_eq, mul_comm, mul_assoc, mul_left_comm, mul_right_comm, mul-le-mul_right, mul-le-mul_left, le_of_mul-le-mul_right, le_of_mul-le-mul_left, add-mul, mul-add, zero-mul, one-mul, mul-one, suc-mul}
use native.Mathlib.Numerals.{add-one}
use native.Mathlib.Omega.{arith}
use lib.Dec.{lit<, lit≤}
use lib.Pow.{pow-add}
use Rattle.axis_laws.proofs.OneStep.{H}
use Rattle.rounding_laws.proofs.RoundNear.{Near}

-- a is at most (1 + 2^-52)^j times b
pub record Most (j a b : ℕ) : Type 0 where
  pub most : H ^ j * a ≤ (H + 1) ^ j * b

pub through : {i j a b c : ℕ} → Most i a b → Most j b c → Most (i + j) a c
through {i} {j} {a} {b} {c} p q =
    record {
      most = le_trans (le_of_eq (ap (λ (z : ℕ). z * a) (pow-add H i j) ∙ swap (H ^ i) (H ^ j) a))
          (le_trans (mul-le-mul_left (H ^ j) p.most)
          (le_trans (le_of_eq (mul_left_comm (H ^ j) ((H + 1) ^ i) b))
          (le_trans (mul-le-mul_left ((H + 1) ^ i) q.most) (le_of_eq (sym (ap (λ (z : ℕ). z * c) (pow-add (H + 1) i j) ∙ mul_assoc ((H + 1) ^ i) ((H + 1) ^ j) c))))));
    }
  where
    swap : (x y a : ℕ) → x * y * a ≡ y * (x * a)
    swap x y a = simp (mul_assoc, mul_left_comm)

pub times : {j a b : ℕ} (c : ℕ) → Most j a b → Most j (a * c) (b * c)
times {j} {a} {b} c p =
    record { most = le_trans (le_of_eq (sym (mul_assoc (H ^ j) a c))) (le_trans (mul-le-mul_right c p.most) (le_of_eq (mul_assoc ((H + 1) ^ j) b c))) }

pub without : {j a b : ℕ} (c : ℕ) → 0 < c → Most j (a * c) (b * c) → Most j a b
without {j} {a} {b} c h p =
    record { most = le_of_mul-le-mul_right (le_trans (le_of_eq (mul_assoc (H ^ j) a c)) (le_trans p.most (le_of_eq (sym (mul_assoc ((H + 1) ^ j) b c))))) h }

pub less_of : {j a b c : ℕ} → a ≤ b → Most j b c → Most j a c
less_of {j} h p = record { most = le_trans (mul-le-mul_left (H ^ j) h) p.most }

more_of : {j a b c : ℕ} → b ≤ c → Most j a b → Most j a c
more_of {j} h p = record { most = le_trans p.most (mul-le-mul_left ((H + 1) ^ j) h) }

alike : {j a b c d : ℕ} → a ≡ b → c ≡ d → Most j b c → Most j a d
alike e k p = less_of (le_of_eq e) (more_of (le_of_eq k) p)

-- an error of G / K that is at most 6 parts in 2^52, of a number of at most n * z
share_more : (K G n x y z : ℕ) → 0 < K → H * G ≤ 6 * K → K * x ≤ (K + G) * y → y ≤ n * z → H * x ≤ H * y + 6 * (n * z)
share_more K G n x y z k0 small h m =
    let a : H * G * y ≤ 6 * K * y = mul-le-mul_right y small in
    let b : K * y ≤ K * (n * z) = mul-le-mul_left K m in
    let c : K * (H * x) ≤ K * (H * y + 6 * (n * z)) =
    omega (arith, mul_left_comm K H x, mul-add K (H * y) (6 * (n * z)), mul_left_comm K H y, mul_left_comm K 6 (n * z), add-mul K G y, mul_assoc H G y, mul_assoc 6 K y) in
    le_of_mul-le-mul_left c k0

-- ONE ROUNDING

-- by one part in 2^52
module _ {g n c : ℕ} (near : Near g n c) (fine : H * near.u ≤ n) where
  pub fine_most : Most 1 (g * c) n
  fine_most = record { most = go (g * c) n near.u near.up fine }
    where
      go : (x n u : ℕ) → 2 * x ≤ 2 * n + u → H * u ≤ n → H * x ≤ (H + 1) * n
      go x n u h k = omega arith

  pub fine_least : Most 1 n (g * c)
  fine_least = record { most = go (g * c) n near.u near.down fine }
    where
      short : (x y u : ℕ) → 2 * y ≤ u → H * u ≤ x + y → H * y ≤ x
      short x y u h k = omega arith

      together : (x n : ℕ) → H * (n - x) ≤ x → H * n ≤ (H + 1) * x
      together x n h = omega arith

      go : (x n u : ℕ) → 2 * n ≤ 2 * x + u → H * u ≤ n → H * n ≤ (H + 1) * x
      go x n u h k = together x n (short x (n - x) u (omega arith) (omega arith))

-- of a whole number of units: a small one is exact
halved : (a b s : ℕ) → 0 < s → 2 * (a * s) ≤ 2 * (b * s) + s → a ≤ b
halved a b s s0 h =
    let k : 2 * a ≤ 2 * b + 1 = le_of_mul-le-mul_right {k = s} (omega (arith, mul_assoc 2 a s, add-mul (2 * b) 1 s, mul_assoc 2 b s)) s0 in
    omega arith

no_more : (a b : ℕ) → a ≤ b → Most 1 a b
no_more a b h = record { most = omega arith }

module _ (g e s : ℕ) (s0 : 0 < s) (near : Near g (e * s) s) where
  whole : (a b : ℕ) → 2 * (a * s) ≤ 2 * (b * s) + near.u → (H * near.u ≤ e * s → Most 1 (a * s) (b * s)) → Most 1 a b
  whole a b half fine = go near.step
    where
      go : (near.u ≡ s) ⊎ (H * near.u ≤ e * s) → Most 1 a b
      go (inl z) = no_more a b (halved a b s s0 (rw z at half))
      go (inr h) = without s s0 (fine h)

  pub whole_most : Most 1 g e
  whole_most = whole g e near.up (fine_most near)

  pub whole_least : Most 1 e g
  whole_least = whole e g near.down (fine_least near)

-- of a product f * d, all in units of 1 / s: one unit goes off or comes on where the product is small
module _ (p f d s : ℕ) (s0 : 0 < s) (near : Near p (f * d * s) (s * s)) where
  halves : (x y : ℕ) → 2 * (x * s) ≤ 2 * (y * s) + s * s → 2 * x ≤ 2 * y + s
  halves x y h = le_of_mul-le-mul_right {k = s} (omega (arith, mul_assoc 2 x s, add-mul (2 * y) s s, mul_assoc 2 y s)) s0

  pub product_most : Most 1 ((p - 1) * s) (f * d)
  product_most = go near.step
    where
      one_off : (p s y : ℕ) → 2 * (p * s) ≤ 2 * y + s → (p - 1) * s ≤ y
      one_off zero s y h = rw (zero-mul s) (omega arith)
      one_off (suc q) s y h = let e : suc q - 1 ≡ q = omega arith in rw e (omega (arith, suc-mul q s))

      go : (near.u ≡ s * s) ⊎ (H * near.u ≤ f * d * s) → Most 1 ((p - 1) * s) (f * d)
      go (inl z) = no_more ((p - 1) * s) (f * d) (one_off p s (f * d) (halves (p * s) (f * d) (rw (z, ← mul_assoc p s s) at near.up)))
      go (inr fine) = less_of (mul-le-mul_right s (omega arith)) (without s s0 (rw (← mul_assoc p s s) at (fine_most near fine)))

  pub product_least : Most 1 (f * d) ((p + 1) * s)
  product_least = go near.step
    where
      one_on : (p s y : ℕ) → 2 * y ≤ 2 * (p * s) + s → y ≤ (p + 1) * s
      one_on p s y h = omega (arith, add-mul p 1 s)

      go : (near.u ≡ s * s) ⊎ (H * near.u ≤ f * d * s) → Most 1 (f * d) ((p + 1) * s)
      go (inl z) = no_more (f * d) ((p + 1) * s) (one_on p s (f * d) (halves (f * d) (p * s) (rw (z, ← mul_assoc p s s) at near.down)))
      go (inr fine) = more_of (mul-le-mul_right s (omega arith)) (without s s0 (rw (← mul_assoc p s s) at (fine_least near fine)))

-- ALL OF THEM

-- In units of 1 / s: the value's distance from low is e, rounded d; the width v, rounded w; the number of cells n; the factor f, which is n / w
-- rounded and perhaps stepped down; the product f * d, rounded p. Then p differs from e * n / v by at most 8 * n parts in 2^52.
pub record Within (s e v n p : ℕ) : Type 0 where
  pub most : H * (p * v) ≤ H * (e * n * s) + 8 * (n * (v * s))
  pub least : H * (e * n * s) ≤ H * (p * v) + 8 * (n * (v * s))

module _ (s e d v w n f p : ℕ) (large : H ≤ s) (inside : e ≤ v) (some : 0 < n) where
  s0 : 0 < s
  s0 = omega arith

  -- one unit is little
  unit : H * v ≤ n * (v * s)
  unit =
      le_trans (le_of_eq (mul_comm H v))
      (le_trans (mul-le-mul_left v large) (le_trans (le_of_eq (sym (one-mul (v * s)))) (mul-le-mul_right (v * s) some)))

  pub not_above : Most 1 ((p - 1) * s) (f * d) → Most 1 d e → Most 1 (f * w) (n * s * s) → Most 1 v w → H * (p * v) ≤ H * (e * n * s) + 8 * (n * (v * s))
  not_above product distance factor width =
      let q = p - 1 in
      let all : Most 4 (v * (q * s)) (e * (n * s * s)) =
      through (times (q * s) width)
      (through (alike (mul_comm w (q * s)) (mul_right_comm f d w) (times w product)) (through (alike refl (mul_comm (n * s * s) d) (times d factor)) (times (n * s * s) distance))) in
      let m : Most 4 (v * q) (e * n * s) = without s s0 (alike (mul_assoc v q s) (sym (mul_assoc (e * n) s s ∙ simp (mul_assoc))) all) in
      let bound : e * n * s ≤ n * (v * s) = le_trans (mul-le-mul_right s (mul-le-mul_right n inside)) (le_of_eq (simp (mul_assoc, mul_left_comm, mul_comm))) in
      go (v * q) (p * v) (e * n * s) (share_more (H ^ 4) ((H + 1) ^ 4 - H ^ 4) n (v * q) (e * n * s) (v * s) (lit< tt) (lit≤ tt) m.most bound)
      (le_trans (mul-le-mul_right v (omega arith)) (le_of_eq (add-mul q 1 v ∙ ap₂ (λ (x y : ℕ). x + y) (mul_comm q v) (one-mul v))))
    where
      go : (x y z : ℕ) → H * x ≤ H * z + 6 * (n * (v * s)) → y ≤ x + v → H * y ≤ H * z + 8 * (n * (v * s))
      go x y z h k = omega (arith, unit)

  pub not-below : p < n * s → Most 1 (f * d) ((p + 1) * s) → Most 1 e d → Most 2 (n * s * s) (f * w) → Most 1 w v → H * (e * n * s) ≤ H * (p * v) + 8 * (n * (v * s))
  not-below below product distance factor width =
      let q = p + 1 in
      let all : Most 5 (e * (n * s * s)) (v * (q * s)) =
      through (times (n * s * s) distance)
      (through (alike (mul_comm d (n * s * s)) (mul_right_comm f w d) (times d factor)) (through (alike refl (mul_comm (q * s) w) (times w product)) (times (q * s) width))) in
      let m : Most 5 (e * n * s) (v * q) = without s s0 (alike (mul_assoc (e * n) s s ∙ simp (mul_assoc)) (sym (mul_assoc v q s)) all) in
      let bound : v * q ≤ n * (v * s) = le_trans (mul-le-mul_left v (le_trans (le_of_eq (add-one p)) below)) (le_of_eq (mul_left_comm v n s)) in
      go (e * n * s) (v * q) (p * v) (share_more (H ^ 5) ((H + 1) ^ 5 - H ^ 5) n (e * n * s) (v * q) (v * s) (lit< tt) (lit≤ tt) m.most bound)
      (mul-add v p 1 ∙ ap₂ (λ (x y : ℕ). x + y) (mul_comm v p) (mul-one v))
    where
      go : (x y z : ℕ) → H * x ≤ H * y + 6 * (n * (v * s)) → y ≡ z + v → H * x ≤ H * z + 8 * (n * (v * s))
      go x y z h k = omega (arith, unit)
