-- `walk_3d` meets its contract: what is done, shifted up, and what the machine makes of the levels to come in the state that is reached, is the
-- whole index. Assumes nothing.
use Prim.Native.Nat.{◌≤◌, ◌<◌, ◌+◌, ◌*◌, ◌/◌, ◌%◌, ◌^◌}
use mathlib.Core.Path.{◌≡◌}
use Rattle.rules.specs.Curve.{level, encode, space}
use Rattle.curve_laws.proofs.OnTop.{on_top}
use Rattle.encoding_3d.proofs.walk_3d.Given as goal

abbrev pub invariant-loop-level : goal.invariant-loop-level
invariant-loop-level l = record {
  within : l._level ≤ l.order;
  config_is : (l.config % 8 ≡ 0) × (l.config < 96);
  rest : l.octants ≡ on_top 3 l._level l.zorder;
  done : l.hilbert * 2 ^ (3 * l._level) + encode space l._level (l.config / 8) (λ k. level 3 k l.zorder) ≡ encode space l.order 0 (λ k. level 3 k l.zorder);
}
