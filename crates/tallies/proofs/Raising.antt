-- The lines of a cell raised across one axis after the other.
use Prim.Native.Nat.{ℕ, ◌+◌, ◌*◌, ◌/◌, ◌%◌, ◌<◌, ◌^◌, max}
use native.Mathlib.Omega.{arith}
use mathlib.Core.Path.{◌≡◌, refl, sym, ◌∙◌}
use mathlib.Core.List.{List}
use lib.ListN.{get_or, length, set}
use lib.Seq.{get_or-set_same}
use Rattle.rules.specs.Sums.{top}
use Rattle.rules.specs.Grid.{cells, on}
use Rattle.tally_laws.specs.Weighed.{Sided}
use Rattle.tally_laws.specs.Added.{place, raised, lines_with, rest_of, Raisable}
use Rattle.tally_laws.proofs.Lines.{top_next, rest_next, lines_next, lines_length, at_place, place_small, still}
use Rattle.tallies.specs.declared.Tally.{Tally}

-- those across the first n axes are raised, and `rest` is left of the cell's number
pub record RaisedTo (sides : List ℕ) (cell amount : ℕ) (before : Tally) (n rest so_far : ℕ) (now : Tally) : Type 0 where
  pub all : now.all ≡ before.all
  pub parts : now.parts ≡ before.parts
  pub heaviest : now.heaviest ≡ before.heaviest
  pub lines : now.lines ≡ lines_with sides cell amount before.lines n
  pub most : so_far ≡ top (raised sides cell amount before.lines) n
  pub left : rest ≡ rest_of sides cell n

-- before the first
pub begun : (sides : List ℕ) (cell amount : ℕ) (t : Tally) → RaisedTo sides cell amount t 0 cell 0 t
unfolding lines_with top rest_of
begun sides cell amount t = record { all = refl; parts = refl; heaviest = refl; lines = refl; most = refl; left = refl }

-- across one axis more
module _ {sides : List ℕ} {cell amount n rest so_far : ℕ} {before now : Tally} (g : Sided sides) (h : cell < cells sides) (i : RaisedTo sides cell amount before n rest so_far now) (l : n < length sides) where
  pub place_is : n * 1024 + rest % on sides n ≡ place sides cell n
  place_is = at_place g h amount before.lines l i.left

  pub place_fits : n * 1024 + rest % on sides n < 3072
  place_fits = rw place_is (place_small g h amount before.lines l)

  -- its line is raised once
  sum_is : get_or now.lines (n * 1024 + rest % on sides n) 0 ≡ get_or before.lines (place sides cell n) 0
  sum_is = rw (place_is, i.lines) (still g h amount before.lines l)

  pub sum_fits : Raisable sides cell amount before.lines → get_or now.lines (n * 1024 + rest % on sides n) 0 + amount < 2 ^ 64
  sum_fits r = rw sum_is (r.fits n l)

  pub one_more : {m : ℕ} → length before.lines ≡ 3072
      → (let p = n * 1024 + rest % on sides n in let sums = set now.lines p (get_or now.lines p 0 + amount) in
      m ≡ max so_far (get_or sums p 0) → RaisedTo sides cell amount before (n + 1) (rest / on sides n) m (record now { lines = sums }))
  one_more k e = record {
    all = i.all;
    parts = i.parts;
    lines = rw (sum_is, place_is, i.lines) (sym (lines_next sides cell amount before.lines n));
    heaviest = i.heaviest;
    most = e ∙ rw (get_or-set_same now.lines _ _ 0 inside, sum_is, i.most, top_next) (omega arith);
    left = rw i.left (sym (rest_next sides cell n));
  }
    where
      inside : n * 1024 + rest % on sides n < length now.lines
      inside = rw (i.lines, lines_length sides cell amount before.lines n, k) place_fits
