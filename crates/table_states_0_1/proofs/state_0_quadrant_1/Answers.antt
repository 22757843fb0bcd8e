-- antt computes the rule at all 1,024 places, and the list is the code's.
use Rattle.rules.specs.Curve.{encode, end, group_entry, digit_table, next_table, plane}
use Rattle.curve_laws.proofs.Tabulated.{quarter_keeps_the_rule}
use Rattle.table_states_0_1.proofs.state_0_quadrant_1.Goals as goal

pub returns : goal.returns
unfolding digit_table next_table plane encode end group_entry
returns c = quarter_keeps_the_rule 1
