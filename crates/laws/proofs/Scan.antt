-- A test of elements one after the other: whether one from place i on passes is whether some element does. Assumes nothing.
use mathlib.Core.Path.{◌≡◌, sym, ap, ◌∙◌}
use mathlib.Core.Bool.{Bool, true, false, ◌||◌}
use mathlib.Core.List.{List}
use Prim.Native.Nat.{ℕ, suc, ◌≤◌, ◌<◌, ◌+◌}
use native.Mathlib.Numerals.{add-one}
use lib.ListN.{length, get_or, drop, drop_of_length-le}
use lib.Seq.{drop-cons}
use Rattle.rules.specs.Sums.{any}

module _ {A : Type 0} (p : A → Bool) (d : A) (xs : List A) (i : ℕ) where
  -- the element at i, and those after it
  at : i < length xs → any p (drop i xs) ≡ p (get_or xs i d) || any p (drop (suc i) xs)
  unfolding any
  at h = ap (any p) (drop-cons xs i d h)

  -- one element further
  pub further : (b : Bool) → i < length xs → any p (drop i xs) ≡ b → p (get_or xs i d) ≡ false → any p (drop (i + 1) xs) ≡ b
  further b h e k = rw add-one (ap (λ (t : Bool). t || any p (drop (suc i) xs)) (sym k) ∙ sym (at h) ∙ e)

  pub found : i < length xs → any p (drop i xs) ≡ any p xs → p (get_or xs i d) ≡ true → true ≡ any p xs
  found h e k = ap (λ (t : Bool). t || any p (drop (suc i) xs)) (sym k) ∙ sym (at h) ∙ e

  pub ended : length xs ≤ i → any p (drop i xs) ≡ any p xs → false ≡ any p xs
  unfolding any
  ended h e = sym (ap (any p) (drop_of_length-le xs h)) ∙ e
