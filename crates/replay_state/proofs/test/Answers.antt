-- A return for each answer.
use Rattle.std.proofs.Common.{arith}
use Rattle.replay_laws.proofs.Events.{outside, too_much, taken}
use Rattle.replay_state.proofs.test.Goals as goal

pub returns-then-weights-cell : goal.returns-then-weights-cell
returns-then-weights-cell c = outside _ _ _ c.if-weights-cell.true

pub returns-then-amount-gt-TOP_WEIGHT : goal.returns-then-amount-gt-TOP_WEIGHT
returns-then-amount-gt-TOP_WEIGHT c = too_much _ _ _ c.if-weights-cell.false (omega (arith, c.if-amount-gt-TOP_WEIGHT.true))

pub returns-then-weights-cell-2 : goal.returns-then-weights-cell-2
returns-then-weights-cell-2 c = too_much _ _ _ c.if-weights-cell.false (omega (arith, c.if-weights-cell-2.true))

pub returns : goal.returns
returns c = taken _ _ _ c.if-weights-cell.false (omega (arith, c.if-weights-cell-2.false, c.if-amount-gt-TOP_WEIGHT.false))
