-- A refusal and its number: none is 0, and no two share one, so that a number leaves one answer. Assumes nothing.
use Prim.Native.Nat.{ℕ, ◌<◌}
use mathlib.Core.Path.{◌≡◌, refl, sym, ap, ◌∙◌}
use native.Mathlib.Omega.{arith}
use lib.Dec.{eqb, lit<}
use Rattle.std.specs.Prelude.{Result, Ok, Err, cond}
use Rattle.rules.specs.Refusals.{number_of, number_in}
use Rattle.rules.specs.declared.refusal.Refusal.{Refusal}
use Rattle.rules.specs.declared.refusal.Refusal.TheVariants.{Order, Coordinate, Index, NoPoints, Lengths, Value, Thin, Outside, Sides, Depth, Weight, Counts, Edition, First, Cell}

pub number_above_0 : (r : Refusal) → 0 < number_of r
number_above_0 Order = lit< tt
number_above_0 Coordinate = lit< tt
number_above_0 Index = lit< tt
number_above_0 NoPoints = lit< tt
number_above_0 Lengths = lit< tt
number_above_0 Value = lit< tt
number_above_0 Thin = lit< tt
number_above_0 Outside = lit< tt
number_above_0 Sides = lit< tt
number_above_0 Depth = lit< tt
number_above_0 Weight = lit< tt
number_above_0 Counts = lit< tt
number_above_0 Edition = lit< tt
number_above_0 First = lit< tt
number_above_0 Cell = lit< tt

-- the refusal with this number
abbrev by_number : ℕ → Refusal
by_number n =
    cond (eqb n 1) Order (
    cond (eqb n 2) Coordinate (
    cond (eqb n 3) Index (
    cond (eqb n 4) NoPoints (
    cond (eqb n 5) Lengths (
    cond (eqb n 6) Value (
    cond (eqb n 7) Thin (
    cond (eqb n 8) Outside (
    cond (eqb n 9) Sides (
    cond (eqb n 10) Depth (
    cond (eqb n 11) Weight (
    cond (eqb n 12) Counts (
    cond (eqb n 13) Edition (
    cond (eqb n 14) First (
    Cell))))))))))))))

by_its_number : (r : Refusal) → by_number (number_of r) ≡ r
by_its_number Order = refl
by_its_number Coordinate = refl
by_its_number Index = refl
by_its_number NoPoints = refl
by_its_number Lengths = refl
by_its_number Value = refl
by_its_number Thin = refl
by_its_number Outside = refl
by_its_number Sides = refl
by_its_number Depth = refl
by_its_number Weight = refl
by_its_number Counts = refl
by_its_number Edition = refl
by_its_number First = refl
by_its_number Cell = refl

pub same_refusal : (r s : Refusal) → number_of r ≡ number_of s → r ≡ s
same_refusal r s e = sym (by_its_number r) ∙ ap by_number e ∙ by_its_number s

-- of a call that answers nothing but that it is not refused
pub same_answer : (y z : Result (Unit {0}) Refusal) → number_in y ≡ number_in z → y ≡ z
same_answer (Ok u) (Ok v) e = refl
same_answer (Ok u) (Err s) e = let l = number_above_0 s in absurd (omega arith)
same_answer (Err r) (Ok v) e = let l = number_above_0 r in absurd (omega arith)
same_answer (Err r) (Err s) e = ap (λ x. Err x) (same_refusal r s e)
