-- What is known of the search of the cut: it has not ended before the line at `cut`, `before` is one line before it, and both weigh the lines
-- before them; how it goes on, and where it ends.
use Rattle.std.proofs.Common.{◌≡◌, ℕ, ◌+◌, ◌-◌, ◌*◌, ◌≤◌, ◌<◌, ◌∙◌, List, length, get_or, take, refl, ap, sym, arith, length-take}
use Rattle.std.proofs.lemmas.List.{get_or-take}
use Rattle.rules.specs.Sums.{total}
use Rattle.rules.specs.Halving.{reach, settle, cut_of}
use Rattle.laws.proofs.Totals.{total_more}
use Rattle.halving_laws.proofs.Reach.{reach_found, reach_end, reach_step, settle_short, settle_here, settle_back}
use Rattle.median.specs.Median.{line_at, CutIs}
use Rattle.median.specs.declared.WeightedMedian.{WeightedMedian}

-- a cut and what it weighs
abbrev pub found_at : ℕ → ℕ → WeightedMedian
found_at position left = record { position = position; left = left }

-- a line before the last
pub not_last : (lines : List ℕ) (i : ℕ) → i < length (take (length lines - 1) lines) → (get_or (take (length lines - 1) lines) i 0 ≡ line_at lines i) × (i + 1 < length lines)
not_last lines i h =
    let l : i < length lines - 1 = omega (arith, length-take (length lines - 1) lines) in
    (get_or-take (length lines - 1) lines i 0 l, omega arith)

-- what is known of the search at a cut
pub record At (lines : List ℕ) (lo : ℕ) (before cut : WeightedMedian) : Type 0 where
  pub inside : cut.position < length lines
  pub weighs : cut.left ≡ total (line_at lines) cut.position
  pub one_back : before.position ≡ cut.position - 1
  pub before_weighs : before.left ≡ total (line_at lines) before.position
  pub bound : cut.left ≤ 18014397435740160 * cut.position
  pub rest : reach (total (line_at lines)) lo cut.position (length lines - 1 - cut.position) ≡ reach (total (line_at lines)) lo 0 (length lines - 1)

pub start : (lines : List ℕ) (lo : ℕ) → 0 < length lines → At lines lo (found_at 0 0) (found_at 0 0)
unfolding total
start lines lo h = record { inside = h; weighs = refl; one_back = refl; before_weighs = refl; bound = omega arith; rest = ap (reach (total (line_at lines)) lo 0) (omega arith) }

module _ {lines : List ℕ} {lo : ℕ} {before cut : WeightedMedian} (a : At lines lo before cut) where
  pub step : (weight : ℕ) → weight ≡ line_at lines cut.position → weight ≤ 18014397435740160 → cut.left < lo → cut.position + 1 < length lines
      → At lines lo cut (found_at (cut.position + 1) (cut.left + weight))
  step weight e s h l = record {
    inside = l;
    weighs = omega (arith, a.weighs, total_more (line_at lines) cut.position);
    one_back = omega arith;
    before_weighs = a.weighs;
    bound = omega (arith, a.bound);
    rest = sym (reach_step (total (line_at lines)) lo cut.position (length lines) (rw (← a.weighs) h) l) ∙ a.rest;
  }

  -- the search ends at the last line, or where lo is reached
  pub over : length lines ≤ cut.position + 1 → reach (total (line_at lines)) lo 0 (length lines - 1) ≡ cut.position
  over h = sym a.rest ∙ reach_end (total (line_at lines)) lo cut.position (length lines - 1 - cut.position) (omega arith)

  pub stop : lo ≤ cut.left → reach (total (line_at lines)) lo 0 (length lines - 1) ≡ cut.position
  stop h = sym a.rest ∙ reach_found (total (line_at lines)) lo cut.position (length lines - 1 - cut.position) (omega (arith, a.weighs))

  module _ (hi : ℕ) (e : reach (total (line_at lines)) lo 0 (length lines - 1) ≡ cut.position) where
    place : (at : ℕ) → settle (total (line_at lines)) lo hi cut.position ≡ at → at ≡ cut_of (line_at lines) (length lines) lo hi
    unfolding cut_of
    place at h = sym (rw e h)

    here : settle (total (line_at lines)) lo hi cut.position ≡ cut.position → CutIs (line_at lines) (length lines) lo hi cut.position cut.left
    here h = record { place = place cut.position h; weight = a.weighs; inside = a.inside }

    pub short : cut.left < lo → CutIs (line_at lines) (length lines) lo hi cut.position cut.left
    short h = here (settle_short (total (line_at lines)) lo hi cut.position (omega (arith, a.weighs)))

    pub within : cut.left ≤ hi → CutIs (line_at lines) (length lines) lo hi cut.position cut.left
    within h = here (settle_here (total (line_at lines)) lo hi cut.position (omega (arith, a.weighs)))

    pub over_hi : lo ≤ cut.left → hi < cut.left → CutIs (line_at lines) (length lines) lo hi before.position before.left
    over_hi l h = record {
      place = place before.position (settle_back (total (line_at lines)) lo hi cut.position (omega (arith, a.weighs)) (omega (arith, a.weighs)) ∙ sym a.one_back);
      weight = a.before_weighs;
      inside = omega (arith, a.inside, a.one_back);
    }
