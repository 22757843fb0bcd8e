-- The first of the lowest points is the low end, bit for bit, and the first of the highest the high end, since an end is replaced only by a
-- strictly smaller or larger value; so of 0.0 and -0.0, which are neither of each other, the first met stays. Assumes nothing.
use mathlib.Core.Path.{◌≡◌, refl, ◌∙◌}
use Prim.Native.Nat.{ℕ, zero, suc, ◌<◌}
use native.Mathlib.Omega.{arith}
use mathlib.Core.Bool.{Bool, true, false, cond}
use mathlib.Core.List.{List, [], ◌∷◌}
use lib.ListN.{length, get_or}
use lib.IntN.{pos}
use lib.Ieee.{Float, fin, lt}
use Rattle.rules.specs.Refusals.{nought}
use Rattle.rules.specs.Axis.{widen, widen_all, extent_of}
use Rattle.rules.specs.declared.Extent.{Extent}

-- point i passes each point before it, and no point passes it: whether one value passes another is whether it is smaller, or larger
pub record First (passes : Float → Float → Bool) (xs : List Float) (i : ℕ) : Type 0 where
  pub here : i < length xs
  pub passes_earlier : (j : ℕ) → j < i → passes (get_or xs i nought) (get_or xs j nought) ≡ true
  pub unpassed : (j : ℕ) → j < length xs → passes (get_or xs j nought) (get_or xs i nought) ≡ false

abbrev pub smaller : Float → Float → Bool
smaller x y = lt x y

abbrev pub larger : Float → Float → Bool
larger x y = lt y x

-- AN END: replaced by each point that passes it

module _ (passes : Float → Float → Bool) where
  unfoldable end : Float → List Float → Float
  end e [] = e
  end e (x ∷ xs) = end (cond (passes x e) x e) xs

  stays : (e : Float) (xs : List Float) → ((j : ℕ) → j < length xs → passes (get_or xs j nought) e ≡ false) → end e xs ≡ e
  unfolding end
  stays e [] h = refl
  stays e (x ∷ xs) h =
      let n : passes x e ≡ false = h 0 (omega arith) in
      rw n (stays e xs (λ j l. h (suc j) (omega arith)))

  -- v is the end once point i is met, which is v
  reached : (e v : Float) (xs : List Float) (i : ℕ) → i < length xs → get_or xs i nought ≡ v → passes v e ≡ true
      → ((j : ℕ) → j < i → passes v (get_or xs j nought) ≡ true) → ((j : ℕ) → i < j → j < length xs → passes (get_or xs j nought) v ≡ false) → end e xs ≡ v
  unfolding end
  reached e v [] i h is t p q = absurd (omega arith)
  reached e v (x ∷ xs) zero h is t p q = rw (is, t) (stays v xs (λ j l. q (suc j) (omega arith) (omega arith)))
  reached e v (x ∷ xs) (suc i) h is t p q =
      reached (cond (passes x e) x e) v xs i (omega arith) is (either (passes x e)) (λ j l. p (suc j) (omega arith)) (λ j l m. q (suc j) (omega arith) (omega arith))
    where
      either : (b : Bool) → passes v (cond b x e) ≡ true
      either true = p 0 (omega arith)
      either false = t

  first_stays : (x : Float) (xs : List Float) (i : ℕ) → First passes (x ∷ xs) i → end x xs ≡ get_or (x ∷ xs) i nought
  first_stays x xs zero f = stays x xs (λ j l. f.unpassed (suc j) (omega arith))
  first_stays x xs (suc i) f =
      let h = f.here in
      reached x (get_or xs i nought) xs i (omega arith) refl (f.passes_earlier 0 (omega arith)) (λ j l. f.passes_earlier (suc j) (omega arith)) (λ j l m. f.unpassed (suc j) (omega arith))

-- BOTH ENDS

low_end : (e : Extent) (xs : List Float) → (widen_all e xs).low ≡ end smaller e.low xs
unfolding widen_all widen end
low_end e [] = refl
low_end e (x ∷ xs) = low_end (widen e x) xs

high_end : (e : Extent) (xs : List Float) → (widen_all e xs).high ≡ end larger e.high xs
unfolding widen_all widen end
high_end e [] = refl
high_end e (x ∷ xs) = high_end (widen e x) xs

pub first_lowest_stays : (xs : List Float) (i : ℕ) → First smaller xs i → (extent_of xs).low ≡ get_or xs i nought
unfolding extent_of
first_lowest_stays [] i f = let h = f.here in absurd (omega arith)
first_lowest_stays (x ∷ xs) i f = low_end (record { low = x; high = x }) xs ∙ first_stays smaller x xs i f

pub first_highest_stays : (xs : List Float) (i : ℕ) → First larger xs i → (extent_of xs).high ≡ get_or xs i nought
unfolding extent_of
first_highest_stays [] i f = let h = f.here in absurd (omega arith)
first_highest_stays (x ∷ xs) i f = high_end (record { low = x; high = x }) xs ∙ first_stays larger x xs i f

-- THE ZEROS

-- the zero of a sign: true is -0.0
abbrev pub zero_of : Bool → Float
zero_of s = fin s 0 (pos 0)

-- no zero is smaller than another
pub zeros_level : (s t : Bool) → lt (zero_of s) (zero_of t) ≡ false
unfolding lt
zeros_level true true = refl
zeros_level true false = refl
zeros_level false true = refl
zeros_level false false = refl

-- the zero that is met first is the low end where no point is smaller, and the high end where none is larger
pub first_zero_stays : (s : Bool) (xs : List Float) (i : ℕ) → get_or xs i nought ≡ zero_of s
    → (First smaller xs i → (extent_of xs).low ≡ zero_of s) × (First larger xs i → (extent_of xs).high ≡ zero_of s)
first_zero_stays s xs i e = (λ f. first_lowest_stays xs i f ∙ e, λ f. first_highest_stays xs i f ∙ e)
