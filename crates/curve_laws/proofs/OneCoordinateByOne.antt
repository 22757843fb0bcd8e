-- That the differences of two cells add up to 1 is 02's sentence: they differ by exactly 1 in one coordinate and not at all in the other, or,
-- in 3D, the others. Of whole numbers that add up to 1, one is 1 and all others are 0. Assumes nothing.
use Prim.Native.Nat.{ℕ, ◌+◌}
use mathlib.Core.Path.{◌≡◌}
use mathlib.Core.Logic.{◌⊎◌, inl, inr, ⊎_elim, ◌↔◌}
use native.Mathlib.Omega.{arith}
use native.Mathlib.Decide.{ℕ_discrete}
use Rattle.rules.specs.Demands.{apart}

-- two numbers differ by exactly 1
abbrev pub ByOne : ℕ → ℕ → Type 0
ByOne a b = (a ≡ b + 1) ⊎ (b ≡ a + 1)

by_one : (a b : ℕ) → apart a b ≡ 1 → ByOne a b
by_one a b h =
    elim (ℕ_discrete a (b + 1)) [
      | yes e ↦ inl e
      | no ne ↦ inr (omega arith)
    ]

same : (a b : ℕ) → apart a b ≡ 0 → a ≡ b
same a b h = omega arith

one_apart : (a b : ℕ) → ByOne a b → apart a b ≡ 1
one_apart a b (inl e) = omega arith
one_apart a b (inr e) = omega arith

none_of_two : (m n : ℕ) → m + n ≡ 0 → (m ≡ 0) × (n ≡ 0)
none_of_two m n h = (omega arith, omega arith)

one_of_two : (m n : ℕ) → m + n ≡ 1 → ((m ≡ 1) × (n ≡ 0)) ⊎ ((m ≡ 0) × (n ≡ 1))
one_of_two m n h =
    elim (ℕ_discrete m 0) [
      | yes e ↦ inr (e, omega arith)
      | no ne ↦ inl (omega arith, omega arith)
    ]

pub one_coordinate_by_one : (x y u v : ℕ) → apart x u + apart y v ≡ 1 ↔ (ByOne x u × (y ≡ v)) ⊎ ((x ≡ u) × ByOne y v)
one_coordinate_by_one x y u v = (there, back)
  where
    there : apart x u + apart y v ≡ 1 → (ByOne x u × (y ≡ v)) ⊎ ((x ≡ u) × ByOne y v)
    there h =
        ⊎_elim (λ p. inl (by_one x u p.0, same y v p.1)) (λ p. inr (same x u p.0, by_one y v p.1))
        (one_of_two (apart x u) (apart y v) h)

    back : (ByOne x u × (y ≡ v)) ⊎ ((x ≡ u) × ByOne y v) → apart x u + apart y v ≡ 1
    back (inl p) = omega (arith, one_apart x u p.0, p.1)
    back (inr p) = omega (arith, one_apart y v p.1, p.0)

-- in 3D the first two coordinates are those of 2D, or are both the same
pub one_coordinate_by_one_3d : (x y z u v w : ℕ)
    → apart x u + apart y v + apart z w ≡ 1
    ↔ (ByOne x u × (y ≡ v) × (z ≡ w)) ⊎ ((x ≡ u) × ByOne y v × (z ≡ w)) ⊎ ((x ≡ u) × (y ≡ v) × ByOne z w)
one_coordinate_by_one_3d x y z u v w = (there, back)
  where
    Sentence : Type 0
    Sentence = (ByOne x u × (y ≡ v) × (z ≡ w)) ⊎ ((x ≡ u) × ByOne y v × (z ≡ w)) ⊎ ((x ≡ u) × (y ≡ v) × ByOne z w)

    beside : (ByOne x u × (y ≡ v)) ⊎ ((x ≡ u) × ByOne y v) → z ≡ w → Sentence
    beside (inl p) e = inl (p.0, p.1, e)
    beside (inr p) e = inr (inl (p.0, p.1, e))

    above : (apart x u ≡ 0) × (apart y v ≡ 0) → ByOne z w → Sentence
    above p o = inr (inr (same x u p.0, same y v p.1, o))

    there : apart x u + apart y v + apart z w ≡ 1 → Sentence
    there h =
        ⊎_elim (λ p. beside ((one_coordinate_by_one x y u v).0 p.0) (same z w p.1)) (λ p. above (none_of_two (apart x u) (apart y v) p.0) (by_one z w p.1))
        (one_of_two (apart x u + apart y v) (apart z w) h)

    back : Sentence → apart x u + apart y v + apart z w ≡ 1
    back (inl p) = omega (arith, one_apart x u p.0, p.1, p.2)
    back (inr (inl p)) = omega (arith, one_apart y v p.1, p.0, p.2)
    back (inr (inr p)) = omega (arith, one_apart z w p.2, p.0, p.1)
