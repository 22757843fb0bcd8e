-- The rows passed hold their ids, and the others what they held.
use Rattle.std.proofs.Common.{◌≡◌, ◌*◌, ◌++◌, drop}
use Rattle.rules.specs.Sums.{list}
use Rattle.ids.specs.Ids.{id_at}
use Rattle.ids.proofs.write_rows.Given as goal

abbrev pub invariant-loop-q : goal.invariant-loop-q
invariant-loop-q g l = l.ids ≡ list (id_at l.splits g.row.AXES l.depth l.first l.width l.height) (l.width * l.q) ++ drop (l.width * l.q) l.initial.ids
