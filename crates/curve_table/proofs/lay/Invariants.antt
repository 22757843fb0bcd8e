-- The quarters so far keep the rule.
use Rattle.std.proofs.Common.{◌+◌, ◌*◌}
use Rattle.curve_laws.specs.Ruled.{RuledBelow}
use Rattle.curve_table.proofs.lay.Given as goal

abbrev pub invariant-loop-q : goal.invariant-loop-q
invariant-loop-q l = RuledBelow (1024 * (4 * l.state + l.q)) l.table
