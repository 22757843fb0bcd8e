-- `back` meets its contract: a turn adds a bit to each coordinate. Assumes nothing.
use Rattle.std.proofs.Common.{ℕ, ◌≡◌, ◌*◌, ◌<◌, ◌≤◌, refl, ◌∙◌, mul-le-mul_left, arith}
use Rattle.std.proofs.lemmas.List.{get_or-replicate, length-replicate}
use Rattle.rules.specs.Curve.{level, coordinate_of}
use Rattle.curve_laws.specs.Undoes.{curve_in}
use Rattle.curve_laws.proofs.Turns.{nothing_done, all_decoded}
use Rattle.curve_laws.proofs.DecodeTurn.{Done, next_state, next_bit, fits}
use Rattle.curve_laws.proofs.OnTop.{top_digit, next_digits}
use Rattle.curve_laws.proofs.Shifts.{raised}
use Rattle.curve_laws.proofs.Parts.{part_lt}
use Rattle.curve_laws.proofs.CurveIn.{rows, starts, cell_is}
use Rattle.decoding.proofs.back.Goals as goal

-- before the first level every coordinate is 0
none : (d index order e : ℕ) {X : ℕ} → X ≡ 0 → Done (curve_in d) index order e order 0 X
unfolding coordinate_of
none d index order e z = rw z (nothing_done _ _)

pub loop-level-init : goal.loop-level-init
loop-level-init g c =
    record {
      axes = length-replicate _ 0;
      within = omega arith;
      state_is = starts _ c.requires.dimensions.0 c.requires.dimensions.1;
      rest = c.unwrap_or-digits.ensures ∙ raised _ _ _ c.checked_shl.ensures (omega arith);
      done = λ i h. none _ _ _ _ (get_or-replicate _ i 0 0 h);
    }

-- all levels have room in 64 places
room : (d left order : ℕ) → left ≤ order → d * order ≤ 64 → d * left ≤ 64
room d left order l r = omega (arith, mul-le-mul_left d l)

pub undo_entry-entry-requires : goal.undo_entry-entry-requires
undo_entry-entry-requires g c = let at = c.loop-level in
    let top = top_digit g.row.D at._level c.args.index c.loop-level-test.true (room _ _ _ at.invariant.within c.requires.levels.1) in
    record {
      dimensions = c.requires.dimensions;
      undoes = c.requires.undoes;
      within = (at.invariant.state_is, rw (at.invariant.rest, top) (part_lt g.row.D _ c.args.index));
    }

pub deeper-cell-requires : goal.deeper-cell-requires
deeper-cell-requires g c = let at = c.loop-level in (
  omega (arith, c.requires.dimensions.1),
  (c.requires.dimensions.1, λ i h. fits (curve_in _) c.args.index c.args.order _ at._level at.state _ c.requires.levels.0 (at.invariant.done i h)),
)

pub loop-level-preserved : goal.loop-level-preserved
loop-level-preserved g c = let at = c.loop-level in
    let t = rows _ c.requires.dimensions.0 c.requires.dimensions.1 in
    let p : 0 < at._level = c.loop-level-test.true in
    let fit = room g.row.D _ _ at.invariant.within c.requires.levels.1 in
    let w = rw (at.invariant.rest, top_digit g.row.D at._level c.args.index p fit) at c.undo_entry-entry.ensures in
    record {
      axes = c.deeper-cell.ensures.axes;
      within = omega (arith, at.invariant.within);
      state_is = next_state _ t c.args.index c.args.order at._level at.state c.undo_entry-entry.result p at.invariant.state_is w;
      rest = rw at.invariant.rest (next_digits _ _ _ p fit);
      done = λ i h.
          rw (c.deeper-cell.ensures.at i h)
          (next_bit _ t c.args.index c.args.order at._level at.state c.undo_entry-entry.result p at.invariant.state_is w _ _ _ (omega (arith, h)) refl (at.invariant.done i h));
    }

pub returns : goal.returns
returns g c = let at = c.loop-level in
    cell_is _ _ _ _ _ at.invariant.axes (λ i h.
    all_decoded (curve_in _) _ at._level at.state (λ j. level _ j c.args.index) _ _ (omega (arith, c.loop-level-test.false)) (at.invariant.done i h))
