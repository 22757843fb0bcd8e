-- The cells passed have their ids, and the others what they held.
use Rattle.std.proofs.Common.{◌≡◌, ◌++◌, drop}
use Rattle.rules.specs.Sums.{list}
use Rattle.ids.specs.Ids.{id_on}
use Rattle.ids.proofs.write_row.Given as goal

abbrev pub invariant-loop-x : goal.invariant-loop-x
invariant-loop-x g l = l.row ≡ list (λ x. id_on l.splits g.row.AXES l.depth l.first x l.y l.z) l.x ++ drop l.x l.initial.row
