-- No second array fits the contract of a public function. Assumes nothing.
use Rattle.laws.proofs.Only.{Only}
use Rattle.curve_laws.proofs.Tabulated.{Quarters, one_state}
use Rattle.table_states_0_1.proofs.state_0.Kinds as state-0-kinds
use Rattle.table_states_0_1.proofs.state_0.Reads as state-0-reads
use Rattle.table_states_0_1.proofs.state_1.Kinds as state-1-kinds
use Rattle.table_states_0_1.proofs.state_1.Reads as state-1-reads

pub state_0_only : Only state-0-kinds.ps state-0-kinds.r (λ κs a y e. state-0-reads.Post κs a y e × Quarters y)
state_0_only κs a y z e f p q = one_state 0 y z p.1 q.1 p.0 q.0

pub state_1_only : Only state-1-kinds.ps state-1-kinds.r (λ κs a y e. state-1-reads.Post κs a y e × Quarters y)
state_1_only κs a y z e f p q = one_state 1 y z p.1 q.1 p.0 q.0
