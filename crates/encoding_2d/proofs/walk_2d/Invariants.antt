-- What is done, shifted up, and what the machine makes of the levels to come in the state that is reached, is the whole index. Assumes nothing.
use Prim.Native.Nat.{ℕ, ◌≤◌, ◌<◌, ◌+◌, ◌-◌, ◌*◌, ◌^◌}
use mathlib.Core.Path.{◌≡◌}
use Rattle.rules.specs.Curve.{level, encode, plane}
use Rattle.curve_laws.proofs.OnTop.{on_top}
use Rattle.encoding_2d.proofs.walk_2d.Given as goal

-- the levels to come, with so many of the whole groups
abbrev pub levels_left : ℕ → ℕ → ℕ → ℕ
levels_left order whole groups = order - 6 * whole + 6 * groups

abbrev pub invariant-loop-group : goal.invariant-loop-group
invariant-loop-group l =
    let left : ℕ = levels_left l.order l.whole l._group in
    record {
      within : (6 * l.whole ≤ l.order) × (l.order ≤ 6 * l.whole + 6) × (l._group ≤ l.whole);
      state_is : l.state < 4;
      rest : l.quadrants ≡ on_top 2 left l.zorder;
      done : l.hilbert * 2 ^ (2 * left) + encode plane left l.state (λ k. level 2 k l.zorder) ≡ encode plane l.order 0 (λ k. level 2 k l.zorder);
    }
