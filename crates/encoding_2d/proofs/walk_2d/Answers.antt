-- `walk_2d` meets its contract: what is done, shifted up, and what the machine makes of the levels to come in the state that is reached, is the
-- whole index; an entry of the table is six steps of the machine. Assumes nothing.
use mathlib.Core.Path.{◌≡◌}
use Prim.Native.Nat.{ℕ, ◌≤◌, ◌<◌, ◌-◌, ◌*◌, ◌/◌, ◌^◌}
use native.Mathlib.Omega.{arith}
use lib.Dec.{lit≤}
use lib.Pow.{pow_mono}
use Rattle.rules.specs.Curve.{level, encode, plane}
use Rattle.curve_laws.proofs.Parts.{part_lt}
use Rattle.curve_laws.proofs.Permutes.{plane_permutes, plane_start}
use Rattle.curve_laws.proofs.RoundTrip.{encode_lt}
use Rattle.curve_laws.proofs.OnTop.{top_levels, next_levels, top_padded}
use Rattle.encoding_2d.proofs.walk_2d.Invariants.{levels_left}
use Rattle.encoding_2d.proofs.GroupTurn.{state_lt, group_next, group_last}
use Rattle.encoding_2d.proofs.walk_2d.Goals as goal

-- the whole index fits
index-fits : (zorder order : ℕ) → order ≤ 32 → encode plane order 0 (λ k. level 2 k zorder) < 2 ^ 64
index-fits zorder order h =
    let o : 2 * order ≤ 64 = omega arith in
    omega (arith, encode_lt plane plane_permutes order 0 (λ k. level 2 k zorder) plane_start (λ k. part_lt 2 (2 * k) zorder), pow_mono o)

pub loop-group-preserved : goal.loop-group-preserved
unfolding plane
loop-group-preserved c = let at = c.loop-group in
    let a = c.args in
    let whole : ℕ = c.saturating_sub-whole.result / 6 in
    let left : ℕ = levels_left a.order whole at._group in
    let e : ℕ = c.group_entry-entry.result in
    let turn : 0 < at._group = c.loop-group-test.true in
    let p : 6 ≤ left = omega (arith, turn) in
    let fit : 2 * left ≤ 64 = omega (arith, at.invariant.within, c.requires.1) in
    let less : levels_left a.order whole (at._group - 1) ≡ left - 6 = omega (arith, turn) in
    let w = rw (at.invariant.rest, top_levels 2 6 left a.zorder p fit) at c.group_entry-entry.ensures in
    rw less
    (record {
      within = (at.invariant.within.0, at.invariant.within.1, omega (arith, at.invariant.within.2));
      state_is = state_lt (a.zorder / 2 ^ (2 * (left - 6))) at.state e at.invariant.state_is w;
      rest = rw at.invariant.rest (next_levels 2 6 left a.zorder p fit);
      done = group_next a.zorder left at.state e at.hilbert _ p at.invariant.state_is w (index-fits a.zorder a.order c.requires.1) at.invariant.done;
    })

pub returns : goal.returns
unfolding plane
returns c = let at = c.loop-group in
    let a = c.args in
    let whole : ℕ = c.saturating_sub-whole.result / 6 in
    let left : ℕ = a.order - 6 * whole in
    let p : left ≤ 6 = omega (arith, at.invariant.within.1) in
    let none : levels_left a.order whole at._group ≡ left = omega (arith, c.loop-group-test.false) in
    let rest = rw none at at.invariant.rest in
    let done = rw none at at.invariant.done in
    let w = rw (rest, top_padded 2 6 left a.zorder p (lit≤ tt) (omega (arith, p))) at c.group_entry-entry-2.ensures in
    group_last a.zorder left at.state c.group_entry-entry-2.result at.hilbert _ p at.invariant.state_is w (index-fits a.zorder a.order c.requires.1) done
