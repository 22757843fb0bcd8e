-- The edition comes first, then the halving's tests, and the events' lengths before the weights.
use Rattle.std.proofs.Common.{sym, ◌∙◌}
use Rattle.replay_tests.proofs.Numbers.{by_edition, by_lengths, by_halving}
use Rattle.replay_tests.proofs.tests.Goals as goal
use Rattle.replay_tests.proofs.tests.Goals.{else-lengths_off-via-then-lengths_off+else-lengths_first, else-lengths_off-via-else-lengths_off}

pub returns-then-halving-ne-EDITION_2 : goal.returns-then-halving-ne-EDITION_2
returns-then-halving-ne-EDITION_2 c = by_edition _ _ _ _ _ _ _ c.if-halving-ne-EDITION_2.true

pub returns-then-lengths_first : goal.returns-then-lengths_first
returns-then-lengths_first c =
    by_lengths _ _ _ _ _ _ _ c.if-halving-ne-EDITION_2.false c.tests-tested.ensures (sym c.lengths_off.ensures ∙ c.if-lengths_off.true) (sym c.lengths_first.ensures ∙ c.if-lengths_first.true)

pub returns : goal.returns
returns c =
    by_halving _ _ _ _ _ _ _ c.if-halving-ne-EDITION_2.false c.tests-tested.ensures
    (elim c.else-lengths_off.branch [
      | else-lengths_off-via-then-lengths_off+else-lengths_first w ↦ rw (sym c.lengths_off.ensures ∙ w.if-lengths_off.true, sym w.lengths_first.ensures ∙ w.if-lengths_first.false)
      | else-lengths_off-via-else-lengths_off w ↦ rw (sym c.lengths_off.ensures ∙ w.if-lengths_off.false)
    ])
