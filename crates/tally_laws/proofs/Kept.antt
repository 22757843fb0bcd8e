-- An amount at a cell, added to the sums that have the cell, leaves the sums of the weights with it.
use Prim.Native.Nat.{ℕ, ◌+◌, ◌*◌, ◌≤◌, ◌<◌}
use native.Mathlib.Omega.{arith}
use mathlib.Core.Bool.{Bool, true, false, ◌&&◌}
use mathlib.Core.Logic.{◌⊎◌, inl, inr}
use mathlib.Core.Path.{◌≡◌, refl, sym, ◌∙◌}
use mathlib.Core.List.{List}
use lib.Dec.{eqb}
use lib.ListN.{get_or, length, length-set}
use borrow.Author.Tests.{eq-eqb, eqb-true}
use Rattle.rules.specs.Sums.{pick, sum_where}
use Rattle.rules.specs.Grid.{cells, coords, on, whole, edge, side, inside, all_weight, line, heaviest, heaviest_line}
use Rattle.rules.specs.Refusals.{top_cells, top_weight}
use Rattle.rules.specs.Demands.{part_weight}
use Rattle.laws.proofs.Totals.{total_le, le-top}
use Rattle.tally_laws.specs.Weighed.{Weighed, Named, heavier}
use Rattle.tally_laws.specs.Added.{raised, Fits, Added}
use Rattle.tally_laws.specs.Tallied.{Tallied}
use Rattle.tally_laws.proofs.Coordinates.{on_below, on_small}
use Rattle.tally_laws.proofs.Lines.{either, raised_at, lines_length, touched}
use Rattle.tally_laws.proofs.Raised.{top_ext, all_raised, part_raised, line_raised, heaviest_line_raised}

-- no sum of weights is large
abbrev pub most : ℕ
most = top_weight * top_cells

pub pick_le : (t : Bool) (v b : ℕ) → v ≤ b → pick t v 0 ≤ b
unfolding pick
pick_le true v b h = h
pick_le false v b h = omega arith

module _ {sides ws : List ℕ} (g : Weighed sides ws) where
  pub where_small : (p : ℕ → Bool) → sum_where p (λ c. get_or ws c 0) (cells sides) ≤ most
  where_small p = omega (arith, g.sided.few, total_le (λ c. pick (p c) (get_or ws c 0) 0) top_weight (cells sides) (λ c l. pick_le (p c) _ _ (g.light c (rw g.long l))))

  pub all_small : all_weight sides ws ≤ most
  unfolding all_weight pick
  all_small = where_small (λ _. true)

  pub part_small : (ids : List ℕ) (i : ℕ) → part_weight sides ws ids i ≤ most
  unfolding part_weight
  part_small ids i = where_small (λ c. eqb (get_or ids c 0) i)

  pub line_small : (a j : ℕ) → line sides ws (whole sides) a j ≤ most
  unfolding line
  line_small a j = where_small (λ c. inside (whole sides) (coords sides c) && eqb (on (coords sides c) a) j)

  pub lines_small : heaviest_line sides ws ≤ most
  unfolding heaviest_line heaviest
  lines_small = le-top _ (length sides) most (λ a _. le-top _ (side a (whole sides)) most (λ i _. line_small a (edge a (whole sides) + i)))

  -- the weights after an amount
  pub heavier_weighed : (c v : ℕ) → c < length ws → get_or ws c 0 + v ≤ top_weight → Weighed sides (heavier ws c v)
  unfolding pick
  heavier_weighed c v h l = record { sided = g.sided; long = length-set ws c _ ∙ g.long; light = λ i q. rw (raised_at ws c v i h) (at i (rw (length-set ws c (get_or ws c 0 + v)) at q) (either (eqb c i))) }
    where
      at : (i : ℕ) → i < length ws → (eqb c i ≡ true) ⊎ (eqb c i ≡ false) → get_or ws i 0 + pick (eqb c i) v 0 ≤ top_weight
      at i q (inl t) = rw (t, ← eqb-true c i t) l
      at i q (inr t) = rw t (omega (arith, g.light i q))

-- the id of a cell
pub named : {n : ℕ} {sides ws ids : List ℕ} → Named n sides ids → Weighed sides ws → {c : ℕ} → c < length ws → get_or ids c 0 < n
named {n} {sides} {ws} {ids} i g {c} h = i.below c (omega (arith, i.long, g.long))

-- the sums mean the weights and ids at hand
module _ {sides ws ids ls ps : List ℕ} {T M : ℕ} (g : Weighed sides ws) (m : Tallied sides ws ids T M ls ps) (c v : ℕ) (h : c < cells sides) where
  -- the sum of a line of the cell, raised
  raised_is : (a : ℕ) → a < length sides → raised sides c v ls a ≡ line sides (heavier ws c v) (whole sides) a (on (coords sides c) a)
  unfolding pick
  raised_is a l =
      let x = on (coords sides c) a in
      let e : eqb x x ≡ true = eq-eqb x x refl in
      let r : line sides (heavier ws c v) (whole sides) a x ≡ line sides ws (whole sides) a x + v = line_raised sides ws c v g.long h a x ∙ rw e refl in
      rw (m.lines a x l (on_below sides c a h l)) (sym r)

  -- the amount can be added
  pub can_add : {part : ℕ} → get_or ids c 0 ≡ part → part < 4096 → get_or ws c 0 + v ≤ top_weight → Fits sides c part v T ls ps
  unfolding pick
  can_add {part} e n l =
      let w = heavier_weighed g c v (rw g.long h) l in
      let p : part_weight sides (heavier ws c v) ids part ≡ part_weight sides ws ids part + v = part_raised sides ws c v g.long h ids part ∙ rw (eq-eqb (get_or ids c 0) part e) refl in
      record {
        sided = g.sided;
        inside = h;
        named = n;
        lines_long = m.lines_long;
        parts_long = m.parts_long;
        all = omega (arith, m.all, all_raised sides ws c v g.long h, all_small w);
        lines = record { fits = λ a q. omega (arith, raised_is a q, line_small w a (on (coords sides c) a)) };
        parts = omega (arith, m.parts part n, p, part_small w ids part);
      }

  -- and the sums keep their meaning
  pub still_tallied : {part : ℕ} {T' M' : ℕ} {ls' ps' : List ℕ} → get_or ids c 0 ≡ part → part < 4096 → Added sides c part v T M ls ps T' M' ls' ps'
      → Tallied sides (heavier ws c v) ids T' M' ls' ps'
  still_tallied {part} e n a =
      record {
        all = a.all ∙ rw m.all (sym (all_raised sides ws c v g.long h));
        heaviest = a.heaviest ∙ rw (m.heaviest, top_ext (raised sides c v ls) _ (length sides) raised_is) (sym (heaviest_line_raised sides ws c v g.long h));
        lines = λ b j q l.
            rw a.lines
            (touched sides c v ls (on_small g.sided c h) (length sides) b j q (omega arith) (omega (arith, g.sided.sides_fit b q)) (omega (arith, g.sided.axes, m.lines_long))
            ∙ rw (m.lines b j q l) (sym (line_raised sides ws c v g.long h b j)));
        parts = λ i q.
            rw a.parts (raised_at ps part v i (rw m.parts_long n) ∙ rw (m.parts i q, ← e) (sym (part_raised sides ws c v g.long h ids i)));
        lines_long = rw a.lines (lines_length sides c v ls (length sides) ∙ m.lines_long);
        parts_long = rw a.parts (length-set ps part _ ∙ m.parts_long);
      }
