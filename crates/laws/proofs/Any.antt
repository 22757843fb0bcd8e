-- Whether some element of a list passes a test, by the elements' places. Assumes nothing.
use Prim.Native.Nat.{ℕ, zero, suc, ◌<◌}
use mathlib.Core.Path.{◌≡◌, refl, sym, ap, ap₂, ◌∙◌}
use mathlib.Core.Bool.{Bool, true, false, not, ◌||◌, or-true, true≢false}
use mathlib.Core.List.{List, [], ◌∷◌, map}
use native.Mathlib.Omega.{arith}
use lib.Dec.{eqb}
use lib.ListN.{length, get_or}
use borrow.Author.Tests.{eqb-true, not-false}
use denote.Param.Members.{Mut}
use denote.Ref.{Bor}
use Rattle.std.specs.List.{list_any, FoldsTo}
use Rattle.std.specs.Prelude.{Option}
use Rattle.std.specs.Option.{MatchOption}
use Rattle.std.specs.Fn.{Called}
use Rattle.std.specs.Iterator.{YieldsThen}
use Rattle.std.specs.Slice.Iter.{iter_rest}
use Rattle.std.proofs.Common.{Iter}
use Rattle.std.proofs.iter.Yields.{fronts}
use Rattle.std.proofs.lemmas.Iterator.{YieldsList-from_slice}
use Rattle.std.proofs.lemmas.Iterator.Search.{any_from_yields_List}
use Rattle.rules.specs.Sums.{any}
use Rattle.rules.specs.Refusals.{lengths_off}

-- a test that cannot pass
pub never : (s : Bool) → (s ≡ true → ⊥) → s ≡ false
never false f = refl
never true f = absurd (f refl)

-- where neither of two tests passes
pub neither : (a b : Bool) → (a || b) ≡ false → (a ≡ false) × (b ≡ false)
neither false b e = (refl, e)
neither true b e = absurd (true≢false e)

-- what a chain of the library's iterators finds is what the rules find
pub any_found : {A : Type 0} (p : A → Bool) (xs : List A) → list_any p xs ≡ any p xs
unfolding any
any_found p [] = refl
any_found p (x ∷ xs) = ap (λ (b : Bool). p x || b) (any_found p xs)

module _ {A : Type 0} (p : A → Bool) (d : A) where
  pub any_at : (xs : List A) (i : ℕ) → i < length xs → p (get_or xs i d) ≡ true → any p xs ≡ true
  unfolding any
  any_at [] i h e = absurd (omega arith)
  any_at (x ∷ xs) zero h e = ap (λ (b : Bool). b || any p xs) e
  any_at (x ∷ xs) (suc i) h e = ap (λ (b : Bool). p x || b) (any_at xs i (omega arith) e) ∙ or-true (p x)

  pub none : (xs : List A) → ((i : ℕ) → i < length xs → p (get_or xs i d) ≡ false) → any p xs ≡ false
  unfolding any
  none [] h = refl
  none (x ∷ xs) h = ap₂ (λ (a b : Bool). a || b) (h 0 (omega arith)) (none xs (λ i l. h (suc i) (omega arith)))

  pub none_at : (xs : List A) → any p xs ≡ false → (i : ℕ) → i < length xs → p (get_or xs i d) ≡ false
  unfolding any
  none_at [] e i h = absurd (omega arith)
  none_at (x ∷ xs) e zero h = (neither (p x) (any p xs) e).0
  none_at (x ∷ xs) e (suc i) h = none_at xs (neither (p x) (any p xs) e).1 i (omega arith)

-- lengths none of which is off
pub length_fits : (n : ℕ) (lengths : List ℕ) → lengths_off n lengths ≡ false → (i : ℕ) → i < length lengths → get_or lengths i 0 ≡ n
length_fits n lengths e i l = eqb-true _ n (not-false _ (none_at (λ m. not (eqb m n)) 0 lengths e i l))

-- what `iter().any(..)` answers over a slice: its clause `ran`, the slice, and one call of the closure
pub any_of_slice : {A F : Type 0} {g : Mut F (Bor A × Unit {0}) Bool} {s u : Iter A} {f : F} {r : Bool} (p : A → Bool) (xs : List A)
    → (ys : List (Bor A)) × (o : Option (Bor A)) × (j : F) × YieldsThen fronts s ys o u × FoldsTo (λ h x q. Called g h (x, tt) false q) f ys j × MatchOption o (r ≡ false) (λ x. (r ≡ true) × ((h : F) × Called g j (x, tt) true h))
    → iter_rest s ≡ xs → ((x : Bor A) (b : Bool) (q : F) → Called g f (x, tt) b q → (q ≡ f) × (b ≡ p x.now)) → r ≡ any p xs
any_of_slice p xs ran rest call = any_from_yields_List p _ _ _ ran (YieldsList-from_slice xs rest) call ∙ any_found p xs

pub any_map : {A B : Type 0} (p : B → Bool) (f : A → B) (xs : List A) → any p (map f xs) ≡ any (λ x. p (f x)) xs
unfolding any
any_map p f [] = refl
any_map p f (x ∷ xs) = ap (λ (b : Bool). p (f x) || b) (any_map p f xs)

-- the same of what f makes of each element
pub any_of_mapped : {A B F : Type 0} {g : Mut F (Bor A × Unit {0}) Bool} {s u : Iter A} {h : F} {r : Bool} (p : B → Bool) (f : A → B) (xs : List A)
    → (ys : List (Bor A)) × (o : Option (Bor A)) × (j : F) × YieldsThen fronts s ys o u × FoldsTo (λ k x q. Called g k (x, tt) false q) h ys j × MatchOption o (r ≡ false) (λ x. (r ≡ true) × ((k : F) × Called g j (x, tt) true k))
    → iter_rest s ≡ xs → ((x : Bor A) (b : Bool) (q : F) → Called g h (x, tt) b q → (q ≡ h) × (b ≡ p (f x.now))) → r ≡ any p (map f xs)
any_of_mapped p f xs ran rest call = any_of_slice (λ x. p (f x)) xs ran rest call ∙ sym (any_map p f xs)
