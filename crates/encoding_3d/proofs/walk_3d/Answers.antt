-- `walk_3d` meets its contract: what is done, shifted up, and what the machine makes of the levels to come in the state that is reached, is the
-- whole index. Assumes nothing.
use Prim.Native.Nat.{ℕ, ◌≤◌, ◌<◌, ◌*◌, ◌/◌}
use mathlib.Core.Path.{refl, ◌∙◌}
use native.Mathlib.Omega.{arith}
use lib.Dec.{lit<}
use lib.Pow.{pow_mono}
use Rattle.rules.specs.Curve.{level, space}
use Rattle.curve_laws.proofs.Parts.{part_lt}
use Rattle.curve_laws.proofs.Permutes.{space_permutes, space_start}
use Rattle.curve_laws.proofs.RoundTrip.{encode_lt}
use Rattle.curve_laws.proofs.Turns.{nothing_done, all_encoded}
use Rattle.curve_laws.proofs.Shifts.{raised}
use Rattle.curve_laws.proofs.OnTop.{top_digit, next_digits}
use Rattle.encoding_3d.proofs.OctantTurn.{config_next, config_lt, octant_turn}
use Rattle.encoding_3d.proofs.walk_3d.Goals as goal

pub loop-level-init : goal.loop-level-init
loop-level-init c =
    record {
      within = omega arith;
      config_is = (refl, lit< tt);
      rest = c.unwrap_or-octants.ensures ∙ raised _ _ _ c.checked_shl.ensures (omega arith);
      done = nothing_done _ _;
    }

pub octant_entry-entry-requires : goal.octant_entry-entry-requires
octant_entry-entry-requires c = let at = c.loop-level in
    let top = top_digit 3 at._level c.args.zorder c.loop-level-test.true (omega (arith, at.invariant.within, c.requires.1)) in
    (c.requires.0, at.invariant.config_is.0, at.invariant.config_is.1, rw (at.invariant.rest, top) (part_lt 3 _ c.args.zorder))

pub loop-level-preserved : goal.loop-level-preserved
loop-level-preserved c = let at = c.loop-level in
    let a = c.args in
    let p : 0 < at._level = c.loop-level-test.true in
    let fit : 3 * at._level ≤ 64 = omega (arith, at.invariant.within, c.requires.1) in
    let e : ℕ = c.octant_entry-entry.result in
    let m = at.invariant.config_is.0 in
    let l = at.invariant.config_is.1 in
    let w = rw (at.invariant.rest, top_digit 3 at._level a.zorder p fit) at c.octant_entry-entry.ensures in
    let o : 3 * a.order ≤ 63 = omega (arith, c.requires.1) in
    let n = encode_lt space space_permutes a.order 0 (λ k. level 3 k a.zorder) space_start (λ k. part_lt 3 (3 * k) a.zorder) in
    record {
      within = omega (arith, at.invariant.within);
      config_is = (config_next a.zorder at._level at.config p m l e w, config_lt a.zorder at._level at.config p m l e w);
      rest = rw at.invariant.rest (next_digits 3 at._level a.zorder p fit);
      done = octant_turn a.zorder at._level at.config p m l e w at.hilbert _ (omega (arith, n, pow_mono o)) at.invariant.done;
    }

pub returns : goal.returns
returns c = let at = c.loop-level in
    all_encoded space at._level (at.config / 8) (λ k. level 3 k c.args.zorder) at.hilbert _ c.loop-level-test.false at.invariant.done
