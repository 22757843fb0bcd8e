-- No second answer fits the contract of a function that another crate calls: in contracts a wide number is its value, and a value has one
-- form in limbs. Assumes nothing.
use Prim.Native.Nat.{ℕ, ◌+◌, ◌*◌}
use mathlib.Core.Path.{◌≡◌}
use Rattle.wide.specs.Value.{value, Limbs, limb}
use Rattle.wide.proofs.Carry.{same_digits}
use Rattle.laws.proofs.Only.{Only, same}
use Rattle.wide.proofs.WideFromU64.from.Kinds as from-kinds
use Rattle.wide.proofs.WideFromU64.from.Reads as from-reads
use Rattle.wide.proofs.Wide.scaled.Kinds as scaled-kinds
use Rattle.wide.proofs.Wide.scaled.Reads as scaled-reads
use Rattle.wide.proofs.Wide.at_most.Kinds as at-most-kinds
use Rattle.wide.proofs.Wide.at_most.Reads as at-most-reads

-- two numbers of the same value have the same limbs
pub one_form : {hi mid lo hi' mid' lo' : ℕ} → Limbs hi mid lo → Limbs hi' mid' lo' → value hi mid lo ≡ value hi' mid' lo' → (hi ≡ hi') × (mid ≡ mid') × (lo ≡ lo')
unfolding value
one_form {hi} {mid} {lo} {hi'} {mid'} {lo'} p q e =
    let low = same_digits limb lo (mid + limb * hi) lo' (mid' + limb * hi') p.lo_small q.lo_small e in
    let high = same_digits limb mid hi mid' hi' p.mid_small q.mid_small low.1 in
    (high.1, high.0, low.0)

pub from_only : Only from-kinds.ps from-kinds.r from-reads.Post
from_only κs a y z e f p q = same p q

pub scaled_only : Only scaled-kinds.ps scaled-kinds.r scaled-reads.Post
scaled_only κs a y z e f p q = same p q

pub at_most_only : Only at-most-kinds.ps at-most-kinds.r at-most-reads.Post
at_most_only κs a y z e f p q = same p q
