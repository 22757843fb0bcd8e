-- Document 01's cut is fair, in every edition whose lo and hi keep to these limits.
-- The left weight is P at the cut: between lo and hi, or below lo with the next line carrying it over hi or to the whole.
use Prim.Native.Nat.{ℕ, zero, suc, ◌+◌, ◌-◌, ◌*◌, ◌≤◌, ◌<◌, zero-le}
use native.Mathlib.Omega.{arith}
use native.Mathlib.Nat.{eq-zero-or-pos}
use mathlib.Core.Path.{◌≡◌, refl, ap, sym}
use mathlib.Core.Bool.{Bool, true, false, ◌&&◌}
use mathlib.Core.Logic.{◌⊎◌, ⊎_elim}
use mathlib.Core.List.{List}
use lib.Dec.{leb, ltb}
use lib.ListN.{length}
use borrow.Author.Tests.{leb-true, leb-false, ltb-true, ltb-false}
use Rattle.rules.specs.Sums.{pick, total}
use Rattle.rules.specs.Grid.{Block, edge, side, before, weight, line, heaviest}
use Rattle.rules.specs.Halving.{reach, settle, cut_of}
use Rattle.rules.specs.Halving.{Edition, cut_at}
use Rattle.halving_laws.specs.Fair.{FairCut}
use Rattle.laws.proofs.Totals.{total_le}
use Rattle.halving_laws.proofs.Weights.{lines_before, lines_all, line_at_most_heaviest}
use Rattle.halving_laws.proofs.Reach.{reach_le, reach_below, reach_hit}

-- what is asked of an edition, at a weight t
pub record Limits (e : Edition) (t : ℕ) : Type 0 where
  pub lo_low : 99 * t ≤ 200 * e.lo t + 200
  pub lo_high : 200 * e.lo t ≤ 99 * t + 200
  pub hi_low : 101 * t ≤ 200 * e.hi t + 200
  pub hi_high : 200 * e.hi t ≤ 101 * t

total_last : (a : ℕ → ℕ) (m : ℕ) → 0 < m → total a m ≡ total a (m - 1) + a (m - 1)
unfolding total
total_last a zero h = omega arith
total_last a (suc m) h = let e : suc m - 1 ≡ m = omega arith in rw e

-- lines a 0, .., a (m - 1) of total weight t, none heavier than w
module _ (a : ℕ → ℕ) (m t lo hi w : ℕ) (some : 0 < m) (all : t ≡ total a m) (heavy : (i : ℕ) → i < m → a i ≤ w)
    (lo≥ : 99 * t ≤ 200 * lo + 200) (lo≤ : 200 * lo ≤ 99 * t + 200) (hi≥ : 101 * t ≤ 200 * hi + 200) (hi≤ : 200 * hi ≤ 101 * t) where
  weightless : w ≡ 0 → t ≡ 0
  weightless e = let h : total a m ≤ 0 * m = rw e at (total_le a w m heavy) in omega arith

  -- the bounds of a cut of weight l
  abbrev pub Fair : ℕ → Type 0
  Fair l = (200 * l ≤ 101 * t) × (99 * t ≤ 200 * (l + w))

  -- P reaches lo at j and is not over hi
  within_bounds : (j : ℕ) → lo ≤ total a j → total a j ≤ hi → Fair (total a j)
  within_bounds j l h = (omega arith, ⊎_elim (λ (z : w ≡ 0). omega (arith, weightless z)) (λ (z : 0 < w). omega arith) (eq-zero-or-pos w))

  -- no line before the last reaches lo
  all_but_last : total a (m - 1) < lo → Fair (total a (m - 1))
  all_but_last h = (omega (arith, total_last a m some), omega (arith, total_last a m some, heavy (m - 1) (omega arith)))

  -- P is over hi at j, and had not reached lo at j - 1
  one_back : (j : ℕ) → 0 < j → j ≤ m - 1 → total a (j - 1) < lo → hi < total a j → Fair (total a (j - 1))
  one_back j jp jm low over = (omega arith, omega (arith, total_last a j jp, heavy (j - 1) (omega arith)))

  pub cut_of_lines_is_fair : Fair (total a (cut_of a m lo hi))
  unfolding cut_of settle pick total
  cut_of_lines_is_fair = go (leb lo (total a j)) (ltb hi (total a j)) refl refl
    where
      j : ℕ
      j = reach (total a) lo 0 (m - 1)

      nothing : total a j ≡ total a 0 → hi < total a j → ⊥
      nothing z h = omega arith

      last : total a j < lo → j ≡ m - 1
      last h = ⊎_elim (λ (l : lo ≤ total a j). omega arith) (λ (e : j ≡ 0 + (m - 1)). omega (arith, e)) (reach_hit (total a) lo 0 (m - 1))

      go : (p q : Bool) → leb lo (total a j) ≡ p → ltb hi (total a j) ≡ q → Fair (total a (pick (p && q) (j - 1) j))
      go false q e f = let h = leb-false lo (total a j) e in rw (last h) (all_but_last (rw (last h) at h))
      go true false e f = within_bounds j (leb-true lo (total a j) e) (ltb-false hi (total a j) f)
      go true true e f =
          let over = ltb-true hi (total a j) f in
          let jp : 0 < j = ⊎_elim (λ (z : j ≡ 0). absurd (nothing (ap (total a) z) over)) (λ z. z) (eq-zero-or-pos j) in
          one_back j jp (omega (arith, reach_le (total a) lo 0 (m - 1)))
          (reach_below (total a) lo 0 (m - 1) (j - 1) zero-le (omega arith)) over

pub cut_is_fair : (e : Edition) (sides ws : List ℕ) (a : ℕ) (b : Block) → a < length b → 0 < side a b → Limits e (weight sides ws b)
    → FairCut sides ws a (cut_at e sides ws a b) b
unfolding cut_at
cut_is_fair e sides ws a b h some r =
    let f : ℕ → ℕ = λ i. line sides ws b a (edge a b + i) in
    let t = weight sides ws b in
    let c = cut_of f (side a b) (e.lo t) (e.hi t) in
    let g = cut_of_lines_is_fair f (side a b) t (e.lo t) (e.hi t) (heaviest sides ws b a) some (sym (lines_all sides ws a b h))
    (λ i l. line_at_most_heaviest sides ws a (edge a b + i) b h) r.lo_low r.lo_high r.hi_low r.hi_high in
    let p : total f c ≡ weight sides ws (before a (edge a b + c) b) = lines_before sides ws a b c h in
    record { light = rw p at g.0; heavy = rw p at g.1 }
