-- The lines' sums after an amount at a cell: those of the cell's lines are raised, and no other.
use Prim.Native.Nat.{ℕ, zero, suc, ◌+◌, ◌*◌, ◌/◌, ◌%◌, ◌≤◌, ◌<◌, max}
use native.Mathlib.Omega.{arith}
use native.Mathlib.Nat.{add-zero, eq-or-lt_of_le}
use native.Mathlib.Numerals.{add-one}
use mathlib.Core.Bool.{Bool, true, false}
use mathlib.Core.Logic.{◌⊎◌, inl, inr, ⊎_elim}
use mathlib.Core.Path.{◌≡◌, refl, ap, sym, ◌∙◌}
use mathlib.Core.List.{List}
use lib.Dec.{eqb}
use lib.ListN.{get_or, length, set, length-set}
use lib.Seq.{get_or-set_same, get_or-set_other}
use borrow.Author.Tests.{eqb-true, eqb-false}
use Rattle.rules.specs.Sums.{pick, top}
use Rattle.rules.specs.Grid.{cells, coords, on}
use Rattle.tally_laws.specs.Weighed.{Sided}
use Rattle.tally_laws.specs.Added.{place, raised, lines_with, rest_of}
use Rattle.tally_laws.proofs.Coordinates.{rest_mod, on_small}

pub either : (t : Bool) → (t ≡ true) ⊎ (t ≡ false)
either true = inl refl
either false = inr refl

-- one sum is raised
pub raised_at : (l : List ℕ) (x v j : ℕ) → x < length l → get_or (set l x (get_or l x 0 + v)) j 0 ≡ get_or l j 0 + pick (eqb x j) v 0
unfolding pick
raised_at l x v j h = go (either (eqb x j))
  where
    go : (eqb x j ≡ true) ⊎ (eqb x j ≡ false) → get_or (set l x (get_or l x 0 + v)) j 0 ≡ get_or l j 0 + pick (eqb x j) v 0
    go (inl t) = rw (t, ← eqb-true x j t) (get_or-set_same l x _ 0 h)
    go (inr t) = rw t (get_or-set_other l x j _ 0 (λ z. eqb-false x j t (sym z)) ∙ sym (add-zero _))

pub top_next : (f : ℕ → ℕ) (n : ℕ) → top f (n + 1) ≡ max (top f n) (f n)
unfolding top
top_next f n = rw add-one

pub rest_next : (sides : List ℕ) (cell a : ℕ) → rest_of sides cell (a + 1) ≡ rest_of sides cell a / on sides a
unfolding rest_of
rest_next sides cell a = rw add-one

module _ (sides : List ℕ) (cell amount : ℕ) (lines : List ℕ) where
  pub lines_next : (n : ℕ) → lines_with sides cell amount lines (n + 1) ≡ set (lines_with sides cell amount lines n) (place sides cell n) (raised sides cell amount lines n)
  unfolding lines_with
  lines_next n = rw add-one

  pub lines_length : (n : ℕ) → length (lines_with sides cell amount lines n) ≡ length lines
  unfolding lines_with
  lines_length zero = refl
  lines_length (suc n) = length-set (lines_with sides cell amount lines n) _ _ ∙ lines_length n

module _ (sides : List ℕ) (cell amount : ℕ) (lines : List ℕ) (narrow : (a : ℕ) → a < length sides → on (coords sides cell) a < 1024) where
  -- the lines across an axis that is still to come
  pub untouched : (n b j : ℕ) → n ≤ b → b < length sides → j < 1024 → get_or (lines_with sides cell amount lines n) (b * 1024 + j) 0 ≡ get_or lines (b * 1024 + j) 0
  unfolding lines_with
  untouched zero b j h l q = refl
  untouched (suc n) b j h l q =
      get_or-set_other (lines_with sides cell amount lines n) (place sides cell n) (b * 1024 + j) _ 0 (λ z. omega (arith, narrow n (omega arith)))
      ∙ untouched n b j (omega arith) l q

  -- the lines across an axis that is done
  pub touched : (n b j : ℕ) → b < n → n ≤ length sides → j < 1024 → length sides * 1024 ≤ length lines
      → get_or (lines_with sides cell amount lines n) (b * 1024 + j) 0 ≡ get_or lines (b * 1024 + j) 0 + pick (eqb (on (coords sides cell) b) j) amount 0
  unfolding lines_with pick
  touched zero b j h l q s = absurd (omega arith)
  touched (suc n) b j h l q s = ⊎_elim last (earlier (λ p. touched n b j p (omega arith) q s)) (eq-or-lt_of_le (at_most h))
    where
      at_most : b < suc n → b ≤ n
      at_most h = omega arith

      here : (eqb (on (coords sides cell) n) j ≡ true) ⊎ (eqb (on (coords sides cell) n) j ≡ false)
          → get_or (lines_with sides cell amount lines (suc n)) (n * 1024 + j) 0 ≡ get_or lines (n * 1024 + j) 0 + pick (eqb (on (coords sides cell) n) j) amount 0
      here (inl t) = rw (t, ← eqb-true (on (coords sides cell) n) j t) (get_or-set_same (lines_with sides cell amount lines n) (place sides cell n) _ 0 (omega (arith, lines_length sides cell amount lines n, narrow n (omega arith))))
      here (inr t) =
          rw t
          (get_or-set_other (lines_with sides cell amount lines n) (place sides cell n) (n * 1024 + j) _ 0 (λ z. eqb-false (on (coords sides cell) n) j t (omega arith))
          ∙ untouched n n j (omega arith) (omega arith) q ∙ sym (add-zero _))

      last : b ≡ n → get_or (lines_with sides cell amount lines (suc n)) (b * 1024 + j) 0 ≡ get_or lines (b * 1024 + j) 0 + pick (eqb (on (coords sides cell) b) j) amount 0
      last e = rw e (here (either (eqb (on (coords sides cell) n) j)))

      earlier : (b < n → get_or (lines_with sides cell amount lines n) (b * 1024 + j) 0 ≡ get_or lines (b * 1024 + j) 0 + pick (eqb (on (coords sides cell) b) j) amount 0) → b < n → get_or (lines_with sides cell amount lines (suc n)) (b * 1024 + j) 0 ≡ get_or lines (b * 1024 + j) 0 + pick (eqb (on (coords sides cell) b) j) amount 0
      earlier before p =
          get_or-set_other (lines_with sides cell amount lines n) (place sides cell n) (b * 1024 + j) _ 0 (λ z. omega arith)
          ∙ before p

-- one turn of the loop over the axes
module _ {sides : List ℕ} (g : Sided sides) {cell : ℕ} (h : cell < cells sides) (amount : ℕ) (lines : List ℕ) {a : ℕ} (l : a < length sides) where
  pub side_first : 1 ≤ on sides a
  side_first = (g.sides_fit a l).0

  pub at_place : {rest : ℕ} → rest ≡ rest_of sides cell a → a * 1024 + rest % on sides a ≡ place sides cell a
  at_place e = rw e (ap (λ (n : ℕ). a * 1024 + n) (rest_mod sides cell a l))

  pub place_small : place sides cell a < 3072
  place_small = omega (arith, on_small g cell h a l, g.axes)

  pub still : get_or (lines_with sides cell amount lines a) (place sides cell a) 0 ≡ get_or lines (place sides cell a) 0
  still = untouched sides cell amount lines (on_small g cell h) a a (on (coords sides cell) a) (omega arith) l (on_small g cell h a l)
