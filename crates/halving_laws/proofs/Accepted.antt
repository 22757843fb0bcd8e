-- A call whose number is 0 passed every test, and what each test says of it then holds; and where all of that holds, no test passes.
use Prim.Native.Nat.{ℕ, ◌-◌, ◌^◌, ◌≤◌, ◌<◌}
use native.Mathlib.Nat.{pos_of_ne-zero}
use native.Mathlib.Omega.{arith}
use mathlib.Core.Path.{◌≡◌, refl}
use mathlib.Core.Bool.{Bool, false, ◌||◌}
use mathlib.Core.List.{List, [], ◌∷◌}
use lib.Dec.{eqb, ltb, lit≤}
use lib.ListN.{length}
use borrow.Author.Tests.{eqb-false, leb-false, ltb-false, eq-eqb, ne_eqb, lt-leb, le-ltb}
use Rattle.rules.specs.Sums.{any}
use Rattle.rules.specs.Grid.{cells, on}
use Rattle.rules.specs.Refusals.{top_side, top_cells, top_depth, top_weight, side_unfit, sides_unfit, lengths_off, weight_over, grid_tests}
use Rattle.rules.specs.Halving.{Halving, halving_tests, refusal_of}
use Rattle.laws.proofs.Any.{neither, none, none_at, length_fits}
use Rattle.laws.proofs.Exactly.{none_passes}
use Rattle.halving_laws.specs.Accepted.{Accepted}

pub side_fits : (s : ℕ) → side_unfit s ≡ false → (1 ≤ s) × (s ≤ top_side)
side_fits s e =
    let t = neither (eqb s 0) (ltb top_side s) e in
    (pos_of_ne-zero (eqb-false s 0 t.0), ltb-false top_side s t.1)

pub sides_fit : (sides : List ℕ) → sides_unfit sides ≡ false → ((a : ℕ) → a < length sides → (1 ≤ on sides a) × (on sides a ≤ top_side)) × (cells sides ≤ top_cells)
sides_fit sides e =
    let t = neither (any side_unfit sides) (ltb top_cells (cells sides)) e in
    (λ a l. side_fits (on sides a) (none_at side_unfit 0 sides t.0 a l), ltb-false top_cells (cells sides) t.1)

pub accepted : (h : Halving) (ws splits ids : List ℕ) → refusal_of h ws splits ids ≡ 0 → Accepted h ws splits ids
unfolding grid_tests
accepted h ws splits ids e =
    let none = none_passes (halving_tests h ws splits ids) e in
    let fit = sides_fit h.sides none.1.1.0 in
    let long = neither (lengths_off (cells h.sides) (length ws ∷ length ids ∷ [])) _ none.1.1.1.1.0 in
    let cell-lengths = length_fits (cells h.sides) (length ws ∷ length ids ∷ []) long.0 in
    record {
      edition_known = none.0;
      first_fits = leb-false (length h.sides) h.first none.1.0;
      sides_fit = fit.0;
      few = fit.1;
      shallow = ltb-false top_depth h.depth none.1.1.1.0;
      weights_long = cell-lengths 0 (lit≤ tt);
      ids_long = cell-lengths 1 (lit≤ tt);
      splits_long = length_fits (2 ^ h.depth - 1) (length splits ∷ []) long.1 0 (lit≤ tt);
      light = λ i l. ltb-false top_weight _ (none_at (ltb top_weight) 0 ws none.1.1.1.1.1.0 i l);
    }

-- of two tests of which neither passes
nor : {a b : Bool} → a ≡ false → b ≡ false → (a || b) ≡ false
nor e f = rw (e, f)

pub no_side_unfit : {h : Halving} {ws splits ids : List ℕ} → Accepted h ws splits ids → any side_unfit h.sides ≡ false
no_side_unfit {h} r =
    none side_unfit 0 h.sides
    (λ a l. let f = r.sides_fit a l in nor (ne_eqb (on h.sides a) 0 (λ e. omega arith)) (le-ltb top_side (on h.sides a) f.1))

pub not_refused : (h : Halving) (ws splits ids : List ℕ) → Accepted h ws splits ids → refusal_of h ws splits ids ≡ 0
unfolding grid_tests any
not_refused h ws splits ids r =
    let sides : sides_unfit h.sides ≡ false = nor (no_side_unfit r) (le-ltb top_cells _ r.few) in
    let weights : weight_over ws ≡ false = none (ltb top_weight) 0 ws (λ c l. le-ltb top_weight _ (r.light c l)) in
    rw (r.edition_known, lt-leb _ _ r.first_fits, sides, le-ltb top_depth _ r.shallow, r.weights_long, r.ids_long, r.splits_long, eq-eqb (cells h.sides) _ refl, eq-eqb (2 ^ h.depth - 1) _ refl, weights)
