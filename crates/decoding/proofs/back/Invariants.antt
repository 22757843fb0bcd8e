-- The digits to come stand on top; what is done of each coordinate, shifted up by the levels left, and what the digits to come give in the state that is reached, is the whole
-- coordinate.
use Rattle.std.proofs.Common.{ℕ, ◌≡◌, ◌-◌, ◌<◌, ◌≤◌, get_or, length}
use Rattle.curve_laws.specs.Undoes.{curve_in}
use Rattle.curve_laws.proofs.DecodeTurn.{Done}
use Rattle.curve_laws.proofs.OnTop.{on_top}
use Rattle.decoding.proofs.back.Given as goal

abbrev pub invariant-loop-level : goal.invariant-loop-level
invariant-loop-level g l = record {
  axes : length l.cell ≡ g.row.D;
  within : l._level ≤ l.order;
  state_is : l.state < (curve_in g.row.D).states;
  rest : l.digits ≡ on_top g.row.D l._level l.index;
  done : (i : ℕ) → i < g.row.D → Done (curve_in g.row.D) l.index l.order (g.row.D - 1 - i) l._level l.state (get_or l.cell i 0);
}
