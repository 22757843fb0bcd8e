-- The heaviest line is that of the heaviest sum among the places of the grid's lines.
use Prim.Native.Nat.{ℕ, ◌+◌, ◌*◌, ◌≤◌, ◌<◌, max}
use native.Mathlib.Omega.{arith}
use mathlib.Core.Path.{◌≡◌, ap, ◌∙◌}
use mathlib.Core.List.{List}
use lib.ListN.{get_or, length, take, drop}
use Rattle.std.proofs.lemmas.List.{get_or-take, get_or-drop, length-drop, length-take-le}
use Rattle.rules.specs.Sums.{top}
use Rattle.rules.specs.Grid.{on, whole, line, heaviest, heaviest_line}
use Rattle.tally_laws.specs.Tallied.{Tallied}
use Rattle.tally_laws.proofs.Lines.{top_next}
use Rattle.tally_laws.proofs.Coordinates.{edge_whole, side_whole}
use Rattle.tally_laws.proofs.Raised.{top_ext}
use Rattle.tallies.specs.Sums.{heaviest_of}

-- a number more
pub max_next : (f : ℕ → ℕ) (n : ℕ) {before now x : ℕ} → before ≡ top f n → x ≡ f n → now ≡ max before x → now ≡ top f (n + 1)
max_next f n p q e = rw top_next (omega (arith, p, q, e))

-- n sums from place `first` on
module _ (ls : List ℕ) (first n : ℕ) (h : first + n ≤ length ls) where
  some_long : length (take n (drop first ls)) ≡ n
  some_long = length-take-le n (drop first ls) (omega (arith, length-drop first ls))

  pub largest_of : {m : ℕ} → m ≡ n → top (λ i. get_or (take m (drop first ls)) i 0) (length (take m (drop first ls))) ≡ top (λ j. get_or ls (first + j) 0) n
  largest_of e = rw (e, some_long) (top_ext _ _ n (λ i l. get_or-take n (drop first ls) i 0 l ∙ get_or-drop first ls i 0))

module _ {sides ws ids ls ps : List ℕ} {T M : ℕ} (m : Tallied sides ws ids T M ls ps) where
  across : (a : ℕ) → a < length sides → top (λ j. get_or ls (a * 1024 + j) 0) (on sides a) ≡ heaviest sides ws (whole sides) a
  unfolding heaviest
  across a l =
      rw (side_whole sides a)
      (top_ext _ _ (on sides a) (λ j q. m.lines a j l q ∙ ap (λ (x : ℕ). line sides ws (whole sides) a x) (omega (arith, edge_whole sides a))))

  pub heaviest_is : heaviest_of sides ls ≡ heaviest_line sides ws
  unfolding heaviest_line
  heaviest_is = top_ext _ _ (length sides) across
