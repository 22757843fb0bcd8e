-- The lengths of the slices: whether all slices of points are as long as that of the indices. Assumes nothing.
use Prim.Native.Nat.{ℕ, ◌≤◌, ◌<◌}
use native.Mathlib.Nat.{pos_of_ne-zero}
use native.Mathlib.Omega.{arith}
use mathlib.Core.Path.{◌≡◌, refl, sym, ap, ◌∙◌}
use mathlib.Core.Bool.{Bool, true, false, not, ◌||◌, or-true, or-false}
use mathlib.Core.List.{List, [], ◌∷◌, ◌++◌, map}
use lib.Dec.{eqb, ltb}
use lib.ListN.{length, get_or}
use lib.Ieee.{Float}
use borrow.Author.Tests.{eq-eqb, ne_eqb, eqb-true, eqb-false, ltb-false, not-false}
use Rattle.std.specs.Prelude.{Result, Ok, Err, cond}
use Rattle.rules.specs.Sums.{any}
use Rattle.rules.specs.Refusals.{test, first_of, lengths_off, answer_by}
use Rattle.rules.specs.Knots.{some_unfit}
use Rattle.rules.specs.declared.refusal.Refusal.{Refusal}
use Rattle.rules.specs.declared.refusal.Refusal.TheVariants.{Order, NoPoints, Lengths, Value}
use Rattle.laws.proofs.Any.{none_at}
use Rattle.laws.proofs.Behind.{refused_before, passed_before}
use Rattle.laws.proofs.Exactly.{none_passes}
use Rattle.knots_tests.specs.Tests.{count, lengths, differs, shape_tests, point_tests}

same_length : (m : ℕ) (axes : List (List Float)) → any (differs m) axes ≡ lengths_off m (map length axes ++ (m ∷ []))
unfolding any
same_length m [] = rw (eq-eqb m m refl)
same_length m (xs ∷ axes) = ap (λ (b : Bool). differs m xs || b) (same_length m axes)

other_length : (n m : ℕ) (axes : List (List Float)) → not (eqb m n) ≡ true → lengths_off n (map length axes ++ (m ∷ [])) ≡ true
unfolding any
other_length n m [] e = rw e
other_length n m (xs ∷ axes) e = ap (λ (b : Bool). differs n xs || b) (other_length n m axes e) ∙ or-true (differs n xs)

lengths_are_off : (m : ℕ) (axes : List (List Float)) → 0 < length axes → any (differs m) axes ≡ lengths_off (count axes) (lengths axes m)
unfolding any
lengths_are_off m [] h = absurd (omega arith)
lengths_are_off m (xs ∷ axes) h = go (eqb (length xs) m) refl
  where
    go : (b : Bool) → eqb (length xs) m ≡ b → (not (eqb (length xs) m) || any (differs m) axes) ≡ lengths_off (length xs) (map length axes ++ (m ∷ []))
    go true e = rw (eqb-true (length xs) m e, eq-eqb m m refl) (same_length m axes)
    go false e = rw e (sym (other_length (length xs) m axes (rw (ne_eqb _ _ (λ f. eqb-false _ _ e (sym f))))))

-- as the code asks of the points behind the first, which are n, and of m indices
pub others_off : {A : Type 0} (points_of : A → List Float) (n m : ℕ) (others : List A) (off : Bool) → off ≡ any (λ axis. differs n (points_of axis)) others
    → (off || not (eqb m n)) ≡ lengths_off n (map length (map points_of others) ++ (m ∷ []))
unfolding any
others_off {A = A} points_of n m others off is = rw is (go others)
  where
    go : (axes : List A) → (any (λ axis. differs n (points_of axis)) axes || not (eqb m n)) ≡ lengths_off n (map length (map points_of axes) ++ (m ∷ []))
    go [] = sym (or_nothing (not (eqb m n)))
      where
        or_nothing : (b : Bool) → (b || false) ≡ b
        or_nothing true = refl
        or_nothing false = refl
    go (axis ∷ axes) = either (differs n (points_of axis)) (any (λ axis. differs n (points_of axis)) axes) (not (eqb m n)) _ (go axes)
      where
        either : (b c e d : Bool) → (c || e) ≡ d → ((b || c) || e) ≡ (b || d)
        either true c e d is = refl
        either false c e d is = is

abbrev fit : Result (Unit {0}) Refusal
fit = Ok tt

-- the answer of axes, by that of the lengths of the first and of the indices, and by whether the others differ
module _ {A : Type 0} (points_of : A → List Float) (most order n m : ℕ) (axes others : List A) (first : A) (is : axes ≡ first ∷ others) (n_is : n ≡ length (points_of first)) where
  axes_decided : answer_by {A = Unit {0}} (shape_tests most order (count (map points_of axes)) (lengths (map points_of axes) m)) tt
      ≡ cond (ltb most order) (Err Order) (cond (eqb n 0) (Err NoPoints) (cond (any (λ axis. differs n (points_of axis)) others || not (eqb m n)) (Err Lengths) (Ok tt)))
  unfolding shape_tests
  axes_decided = rw (is, sym n_is, sym (others_off points_of n m others _ refl)) refl

  lengths_decided : answer_by {A = Unit {0}} (shape_tests most order n (n ∷ n ∷ m ∷ [])) tt
      ≡ cond (ltb most order) (Err Order) (cond (eqb n 0) (Err NoPoints) (cond (not (eqb m n)) (Err Lengths) (Ok tt)))
  unfolding shape_tests any
  lengths_decided = rw (eq-eqb n n refl, or-false (not (eqb m n))) refl

  pub refused_by_lengths : (r : Refusal) → answer_by {A = Unit {0}} (shape_tests most order n (n ∷ n ∷ m ∷ [])) tt ≡ Err r
      → answer_by {A = Unit {0}} (shape_tests most order (count (map points_of axes)) (lengths (map points_of axes) m)) tt ≡ Err r
  refused_by_lengths r e = axes_decided ∙ go (ltb most order) (eqb n 0) (not (eqb m n)) (any (λ axis. differs n (points_of axis)) others) (sym lengths_decided ∙ e)
    where
      go : (a b c off : Bool) → cond a (Err Order) (cond b (Err NoPoints) (cond c (Err Lengths) fit)) ≡ Err r
          → cond a (Err Order) (cond b (Err NoPoints) (cond (off || c) (Err Lengths) fit)) ≡ Err r
      go true b c off e = e
      go false true c off e = e
      go false false true off e = rw (or-true off) e
      go false false false off e = cc

  pub passed_by_lengths : answer_by {A = Unit {0}} (shape_tests most order n (n ∷ n ∷ m ∷ [])) tt ≡ Ok tt
      → answer_by {A = Unit {0}} (shape_tests most order (count (map points_of axes)) (lengths (map points_of axes) m)) tt
      ≡ cond (any (λ axis. differs n (points_of axis)) others) (Err Lengths) (Ok tt)
  passed_by_lengths e = axes_decided ∙ go (ltb most order) (eqb n 0) (not (eqb m n)) (any (λ axis. differs n (points_of axis)) others) (sym lengths_decided ∙ e)
    where
      go : (a b c off : Bool) → cond a (Err Order) (cond b (Err NoPoints) (cond c (Err Lengths) fit)) ≡ Ok tt
          → cond a (Err Order) (cond b (Err NoPoints) (cond (off || c) (Err Lengths) fit)) ≡ cond off (Err Lengths) (Ok tt)
      go true b c off e = cc
      go false true c off e = cc
      go false false true off e = cc
      go false false false off e = rw (or-false off) refl

-- the answer of axes whose points are not too few
pub decided : {A : Type 0} (points_of : A → List Float) (most order n m : ℕ) (axes others : List A) (first : A) (off : Bool) → axes ≡ first ∷ others → n ≡ length (points_of first)
    → ltb most order ≡ false → eqb n 0 ≡ false → off ≡ any (λ axis. differs n (points_of axis)) others
    → answer_by {A = Unit {0}} (shape_tests most order (count (map points_of axes)) (lengths (map points_of axes) m)) tt ≡ cond (off || not (eqb m n)) (Err Lengths) (Ok tt)
decided points_of most order n m axes others first off is n_is few some off_is =
    axes_decided points_of most order n m axes others first is n_is ∙ rw (few, some, off_is) refl

first_length : (axes : List (List Float)) → 0 < length axes → length (get_or axes 0 []) ≡ count axes
first_length [] h = absurd (omega arith)
first_length (xs ∷ axes) h = refl

-- what a shape that passes says
pub record Shaped (most order m : ℕ) (axes : List (List Float)) : Type 0 where
  pub few : order ≤ most
  pub as_many : (i : ℕ) → i < length axes → length (get_or axes i []) ≡ m
  pub counted : count axes ≡ m
  pub some : 0 < m

pub shaped : (most order m : ℕ) (axes : List (List Float)) → 0 < length axes → first_of (shape_tests most order (count axes) (lengths axes m)) ≡ 0 → Shaped most order m axes
unfolding shape_tests
shaped most order m axes h e =
    let p = none_passes (shape_tests most order (count axes) (lengths axes m)) e in
    let fit = lengths_are_off m axes h ∙ p.1.1.0 in
    let as_many = λ (i : ℕ) (l : i < length axes). eqb-true (length (get_or axes i [])) m (not-false _ (none_at (differs m) [] axes fit i l)) in
    let counted = sym (first_length axes h) ∙ as_many 0 h in
    record {
      few = ltb-false most order p.0;
      as_many = as_many;
      counted = counted;
      some = pos_of_ne-zero (λ z. eqb-false (count axes) 0 p.1.0 (counted ∙ z));
    }

-- the tests of the shape stand before that of the values
module _ (most order : ℕ) (axes : List (List Float)) (m : ℕ) where
  pub refused_by_shape : (r : Refusal) → answer_by {A = Unit {0}} (shape_tests most order (count axes) (lengths axes m)) tt ≡ Err r → answer_by {A = Unit {0}} (point_tests most order axes m) tt ≡ Err r
  refused_by_shape = refused_before tt tt (test (some_unfit axes) Value ∷ []) (shape_tests most order (count axes) (lengths axes m))

  pub passed_by_shape : answer_by {A = Unit {0}} (shape_tests most order (count axes) (lengths axes m)) tt ≡ Ok tt
      → answer_by {A = Unit {0}} (point_tests most order axes m) tt ≡ answer_by (test (some_unfit axes) Value ∷ []) tt
  passed_by_shape = passed_before tt tt (test (some_unfit axes) Value ∷ []) (shape_tests most order (count axes) (lengths axes m)) tt
