-- No second array fits the contract of a public function. Assumes nothing.
use Rattle.laws.proofs.Only.{Only}
use Rattle.curve_laws.proofs.Tabulated.{Quarters, one_state}
use Rattle.table_states_2_3.proofs.state_2.Kinds as state-2-kinds
use Rattle.table_states_2_3.proofs.state_2.Reads as state-2-reads
use Rattle.table_states_2_3.proofs.state_3.Kinds as state-3-kinds
use Rattle.table_states_2_3.proofs.state_3.Reads as state-3-reads

pub state_2_only : Only state-2-kinds.ps state-2-kinds.r (λ κs a y e. state-2-reads.Post κs a y e × Quarters y)
state_2_only κs a y z e f p q = one_state 2 y z p.1 q.1 p.0 q.0

pub state_3_only : Only state-3-kinds.ps state-3-kinds.r (λ κs a y e. state-3-reads.Post κs a y e × Quarters y)
state_3_only κs a y z e f p q = one_state 3 y z p.1 q.1 p.0 q.0
