-- The number of a list of tests is that of the first place at which one passes, and the first place for several axes is the earliest of
-- theirs. Assumes nothing.
use Prim.Native.Nat.{ℕ, suc, ◌≤◌, min}
use native.Mathlib.Nat.{zero-min, min-zero, suc-min-suc, min-le_left, min-le_right, le_refl}
use native.Mathlib.Omega.{arith}
use mathlib.Core.Path.{◌≡◌, refl, sym, ap, ◌∙◌}
use mathlib.Core.Bool.{Bool, true, false, ◌||◌}
use mathlib.Core.List.{List, [], ◌∷◌}
use lib.ListN.{length, get_or}
use Rattle.std.specs.Prelude.{Result}
use Rattle.rules.specs.Sums.{any}
use Rattle.rules.specs.Refusals.{Test, refuse, first_of, answer_by, number_of, number_in}
use Rattle.rules.specs.Demands.{NonePasses}
use Rattle.rules.specs.declared.refusal.Refusal.{Refusal}
use Rattle.laws.proofs.Exactly.{none_passes}
use Rattle.laws.proofs.Readings.{number_of_answer}
use Rattle.knots_given.specs.Given.{Given, Question, questions, asked_of}
use Rattle.given_tests.specs.Places.{first_place, place, place_of, number_at_place}

-- the numbers of questions
abbrev numbers_of : List Question → List ℕ
numbers_of [] = []
numbers_of (q ∷ qs) = number_of q.refusal ∷ numbers_of qs

-- the number of the tests is that of their first place
at_first_place : (axes : List Given) (qs : List Question) → first_of (asked_of axes qs) ≡ get_or (numbers_of qs) (first_place (asked_of axes qs)) 0
unfolding asked_of
at_first_place axes [] = refl
at_first_place axes (q ∷ qs) = go (at_first_place axes qs) (any q.passes axes)
  where
    go : first_of (asked_of axes qs) ≡ get_or (numbers_of qs) (first_place (asked_of axes qs)) 0 → (b : Bool)
        → refuse b (number_of q.refusal) (first_of (asked_of axes qs)) ≡ get_or (number_of q.refusal ∷ numbers_of qs) (refuse b 0 (suc (first_place (asked_of axes qs)))) 0
    go e true = refl
    go e false = e

-- one axis more
earliest : (g : Given) (axes : List Given) (qs : List Question) → first_place (asked_of (g ∷ axes) qs) ≡ min (first_place (asked_of (g ∷ []) qs)) (first_place (asked_of axes qs))
unfolding asked_of any
earliest g axes [] = refl
earliest g axes (q ∷ qs) = go (earliest g axes qs) (q.passes g) (any q.passes axes)
  where
    go : first_place (asked_of (g ∷ axes) qs) ≡ min (first_place (asked_of (g ∷ []) qs)) (first_place (asked_of axes qs)) → (b c : Bool)
        → refuse (b || c) 0 (suc (first_place (asked_of (g ∷ axes) qs))) ≡ min (refuse (b || false) 0 (suc (first_place (asked_of (g ∷ []) qs)))) (refuse c 0 (suc (first_place (asked_of axes qs))))
    go e true c = sym (zero-min _)
    go e false true = sym (min-zero _)
    go e false false = ap suc e ∙ sym (suc-min-suc _ _)

-- where none passes the place is behind the last
behind : (ts : List Test) → NonePasses ts → first_place ts ≡ length ts
behind [] p = refl
behind (t ∷ ts) p = rw p.0 (ap suc (behind ts p.1))

at_most_behind : (ts : List Test) → first_place ts ≤ length ts
at_most_behind [] = le_refl 0
at_most_behind (t ∷ ts) = go (at_most_behind ts) t.passes
  where
    go : first_place ts ≤ length ts → (b : Bool) → refuse b 0 (suc (first_place ts)) ≤ suc (length ts)
    go l true = omega arith
    go l false = omega arith

module _ (order : ℕ) where
  pub place_of_more : (g : Given) (axes : List Given) → place order (g ∷ axes) ≡ min (place_of g order) (place order axes)
  place_of_more g axes = earliest g axes (questions order)

  pub place_is_earlier : (g : Given) (axes : List Given) (x rest earlier : ℕ) → earlier ≡ min x rest → x ≡ place_of g order → rest ≡ place order axes → earlier ≡ place order (g ∷ axes)
  place_is_earlier g axes x rest earlier e f h = rw (e, f, h) (sym (place_of_more g axes))

  pub number_at_the_earliest : (axes : List Given) → number_at_place (place order axes) ≡ first_of (asked_of axes (questions order))
  unfolding questions
  number_at_the_earliest axes = sym (at_first_place axes (questions order))

  -- so is that of an answer by the questions
  pub answered_at_the_earliest : (axes : List Given) (answer : Result (Unit {0}) Refusal) → answer ≡ answer_by (asked_of axes (questions order)) tt
      → number_in answer ≡ number_at_place (place order axes)
  answered_at_the_earliest axes answer e = ap number_in e ∙ number_of_answer (asked_of axes (questions order)) tt ∙ sym (number_at_the_earliest axes)

  -- where the number is 0 no question passes of any axis
  pub none_passes_of_any : (axes : List Given) → first_of (asked_of axes (questions order)) ≡ 0 → place order axes ≡ 6
  unfolding questions asked_of
  none_passes_of_any axes e = behind (asked_of axes (questions order)) (none_passes (asked_of axes (questions order)) e)

  at_most_6 : (axes : List Given) → place order axes ≤ 6
  unfolding questions asked_of
  at_most_6 axes = at_most_behind (asked_of axes (questions order))

  pub none_passes_of_each : (g : Given) (axes : List Given) → place order (g ∷ axes) ≡ 6 → (place_of g order ≡ 6) × (place order axes ≡ 6)
  none_passes_of_each g axes e =
      let m = place_of_more g axes in
      let first = at_most_6 (g ∷ []) in
      let rest = at_most_6 axes in
      let l : min (place_of g order) (place order axes) ≤ place_of g order = min-le_left _ _ in
      let r : min (place_of g order) (place order axes) ≤ place order axes = min-le_right _ _ in
      (omega arith, omega arith)
