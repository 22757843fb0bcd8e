-- No second outcome fits the contract of an exported function, as of the one that it calls: neither another number nor another value behind a pointer or in a lent slice.
-- Assumes nothing.
use Prim.Native.Nat.{ℕ}
use mathlib.Core.List.{List}
use Rattle.laws.proofs.Only.{Only, OnlyLeaving, same, both}
use Rattle.skarvolm_c.proofs.skarvolm_deposit.Kinds as skarvolm-deposit-kinds
use Rattle.skarvolm_c.proofs.skarvolm_deposit.Reads as skarvolm-deposit-reads
use Rattle.skarvolm_c.proofs.skarvolm_encode_2d.Kinds as skarvolm-encode-2d-kinds
use Rattle.skarvolm_c.proofs.skarvolm_encode_2d.Reads as skarvolm-encode-2d-reads
use Rattle.skarvolm_c.proofs.skarvolm_encode_3d.Kinds as skarvolm-encode-3d-kinds
use Rattle.skarvolm_c.proofs.skarvolm_encode_3d.Reads as skarvolm-encode-3d-reads
use Rattle.skarvolm_c.proofs.skarvolm_decode_2d.Kinds as skarvolm-decode-2d-kinds
use Rattle.skarvolm_c.proofs.skarvolm_decode_2d.Reads as skarvolm-decode-2d-reads
use Rattle.skarvolm_c.proofs.skarvolm_decode_3d.Kinds as skarvolm-decode-3d-kinds
use Rattle.skarvolm_c.proofs.skarvolm_decode_3d.Reads as skarvolm-decode-3d-reads
use Rattle.skarvolm_c.proofs.skarvolm_cell.Kinds as skarvolm-cell-kinds
use Rattle.skarvolm_c.proofs.skarvolm_cell.Reads as skarvolm-cell-reads
use Rattle.skarvolm_c.proofs.skarvolm_index_2d.Kinds as skarvolm-index-2d-kinds
use Rattle.skarvolm_c.proofs.skarvolm_index_2d.Reads as skarvolm-index-2d-reads
use Rattle.skarvolm_c.proofs.skarvolm_index_3d.Kinds as skarvolm-index-3d-kinds
use Rattle.skarvolm_c.proofs.skarvolm_index_3d.Reads as skarvolm-index-3d-reads
use Rattle.skarvolm_c.proofs.skarvolm_index_2d_in.Kinds as skarvolm-index-2d-in-kinds
use Rattle.skarvolm_c.proofs.skarvolm_index_2d_in.Reads as skarvolm-index-2d-in-reads
use Rattle.skarvolm_c.proofs.skarvolm_index_3d_in.Kinds as skarvolm-index-3d-in-kinds
use Rattle.skarvolm_c.proofs.skarvolm_index_3d_in.Reads as skarvolm-index-3d-in-reads
use Rattle.skarvolm_c.proofs.skarvolm_rcb_2d.Kinds as skarvolm-rcb-2d-kinds
use Rattle.skarvolm_c.proofs.skarvolm_rcb_2d.Reads as skarvolm-rcb-2d-reads
use Rattle.skarvolm_c.proofs.skarvolm_rcb_3d.Kinds as skarvolm-rcb-3d-kinds
use Rattle.skarvolm_c.proofs.skarvolm_rcb_3d.Reads as skarvolm-rcb-3d-reads
use Rattle.skarvolm_c.proofs.skarvolm_halve_2d.Kinds as skarvolm-halve-2d-kinds
use Rattle.skarvolm_c.proofs.skarvolm_halve_2d.Reads as skarvolm-halve-2d-reads
use Rattle.skarvolm_c.proofs.skarvolm_halve_3d.Kinds as skarvolm-halve-3d-kinds
use Rattle.skarvolm_c.proofs.skarvolm_halve_3d.Reads as skarvolm-halve-3d-reads
use Rattle.skarvolm_c.proofs.skarvolm_parts.Kinds as skarvolm-parts-kinds
use Rattle.skarvolm_c.proofs.skarvolm_parts.Reads as skarvolm-parts-reads
use Rattle.skarvolm_c.proofs.skarvolm_replay_2d.Kinds as skarvolm-replay-2d-kinds
use Rattle.skarvolm_c.proofs.skarvolm_replay_2d.Reads as skarvolm-replay-2d-reads
use Rattle.skarvolm_c.proofs.skarvolm_replay_3d.Kinds as skarvolm-replay-3d-kinds
use Rattle.skarvolm_c.proofs.skarvolm_replay_3d.Reads as skarvolm-replay-3d-reads

pub skarvolm_deposit_only : Only skarvolm-deposit-kinds.ps skarvolm-deposit-kinds.r skarvolm-deposit-reads.Post
skarvolm_deposit_only κs a y z e f p q = same p q

pub skarvolm_encode_2d_only : OnlyLeaving skarvolm-encode-2d-kinds.ps skarvolm-encode-2d-kinds.r skarvolm-encode-2d-reads.Post (λ κs e. e.1.1.1.0.now)
skarvolm_encode_2d_only κs a y z e f p q = (same p.0 q.0, same p.1 q.1)

pub skarvolm_encode_3d_only : OnlyLeaving skarvolm-encode-3d-kinds.ps skarvolm-encode-3d-kinds.r skarvolm-encode-3d-reads.Post (λ κs e. e.1.1.1.1.0.now)
skarvolm_encode_3d_only κs a y z e f p q = (same p.0 q.0, same p.1 q.1)

pub skarvolm_decode_2d_only : OnlyLeaving {A = ℕ × ℕ} skarvolm-decode-2d-kinds.ps skarvolm-decode-2d-kinds.r skarvolm-decode-2d-reads.Post (λ κs e. (e.1.1.0.now, e.1.1.1.0.now))
skarvolm_decode_2d_only κs a y z e f p q = (same p.0 q.0, both (same p.1.0 q.1.0) (same p.1.1 q.1.1))

pub skarvolm_decode_3d_only : OnlyLeaving {A = ℕ × (ℕ × ℕ)} skarvolm-decode-3d-kinds.ps skarvolm-decode-3d-kinds.r skarvolm-decode-3d-reads.Post (λ κs e. (e.1.1.0.now, (e.1.1.1.0.now, e.1.1.1.1.0.now)))
skarvolm_decode_3d_only κs a y z e f p q = (same p.0 q.0, both (same p.1.0 q.1.0) (both (same p.1.1.0 q.1.1.0) (same p.1.1.1 q.1.1.1)))

pub skarvolm_cell_only : OnlyLeaving skarvolm-cell-kinds.ps skarvolm-cell-kinds.r skarvolm-cell-reads.Post (λ κs e. e.1.1.1.1.0.now)
skarvolm_cell_only κs a y z e f p q = (same p.0 q.0, same p.1 q.1)

pub skarvolm_index_2d_only : OnlyLeaving skarvolm-index-2d-kinds.ps skarvolm-index-2d-kinds.r skarvolm-index-2d-reads.Post (λ κs e. e.1.1.1.0.now)
skarvolm_index_2d_only κs a y z e f p q = (same p.0 q.0, same p.1 q.1)

pub skarvolm_index_3d_only : OnlyLeaving skarvolm-index-3d-kinds.ps skarvolm-index-3d-kinds.r skarvolm-index-3d-reads.Post (λ κs e. e.1.1.1.1.0.now)
skarvolm_index_3d_only κs a y z e f p q = (same p.0 q.0, same p.1 q.1)

pub skarvolm_index_2d_in_only : OnlyLeaving skarvolm-index-2d-in-kinds.ps skarvolm-index-2d-in-kinds.r skarvolm-index-2d-in-reads.Post (λ κs e. e.1.1.1.1.1.1.1.0.now)
skarvolm_index_2d_in_only κs a y z e f p q = (same p.0 q.0, same p.1 q.1)

pub skarvolm_index_3d_in_only : OnlyLeaving skarvolm-index-3d-in-kinds.ps skarvolm-index-3d-in-kinds.r skarvolm-index-3d-in-reads.Post (λ κs e. e.1.1.1.1.1.1.1.1.1.1.0.now)
skarvolm_index_3d_in_only κs a y z e f p q = (same p.0 q.0, same p.1 q.1)

pub skarvolm_rcb_2d_only : OnlyLeaving {A = List ℕ × List ℕ} skarvolm-rcb-2d-kinds.ps skarvolm-rcb-2d-kinds.r skarvolm-rcb-2d-reads.Post (λ κs e. (e.1.1.1.1.0.now, e.1.1.1.1.1.0.now))
skarvolm_rcb_2d_only κs a y z e f p q = (same p.0 q.0, both (same p.1.0 q.1.0) (same p.1.1 q.1.1))

pub skarvolm_rcb_3d_only : OnlyLeaving {A = List ℕ × List ℕ} skarvolm-rcb-3d-kinds.ps skarvolm-rcb-3d-kinds.r skarvolm-rcb-3d-reads.Post (λ κs e. (e.1.1.1.1.1.0.now, e.1.1.1.1.1.1.0.now))
skarvolm_rcb_3d_only κs a y z e f p q = (same p.0 q.0, both (same p.1.0 q.1.0) (same p.1.1 q.1.1))

pub skarvolm_halve_2d_only : OnlyLeaving {A = List ℕ × List ℕ} skarvolm-halve-2d-kinds.ps skarvolm-halve-2d-kinds.r skarvolm-halve-2d-reads.Post (λ κs e. (e.1.1.1.1.1.1.0.now, e.1.1.1.1.1.1.1.0.now))
skarvolm_halve_2d_only κs a y z e f p q = (same p.0 q.0, both (same p.1.0 q.1.0) (same p.1.1 q.1.1))

pub skarvolm_halve_3d_only : OnlyLeaving {A = List ℕ × List ℕ} skarvolm-halve-3d-kinds.ps skarvolm-halve-3d-kinds.r skarvolm-halve-3d-reads.Post (λ κs e. (e.1.1.1.1.1.1.1.0.now, e.1.1.1.1.1.1.1.1.0.now))
skarvolm_halve_3d_only κs a y z e f p q = (same p.0 q.0, both (same p.1.0 q.1.0) (same p.1.1 q.1.1))

pub skarvolm_parts_only : OnlyLeaving {A = List ℕ × List ℕ} skarvolm-parts-kinds.ps skarvolm-parts-kinds.r skarvolm-parts-reads.Post (λ κs e. (e.1.1.1.0.now, e.1.1.1.1.0.now))
skarvolm_parts_only κs a y z e f p q = (same p.0 q.0, both (same p.1.0 q.1.0) (same p.1.1 q.1.1))

pub skarvolm_replay_2d_only : OnlyLeaving {A = List ℕ × (List ℕ × (List ℕ × List ℕ))} skarvolm-replay-2d-kinds.ps skarvolm-replay-2d-kinds.r skarvolm-replay-2d-reads.Post (λ κs e. (e.1.1.1.1.0.now, (e.1.1.1.1.1.1.1.0.now, (e.1.1.1.1.1.1.1.1.0.now, e.1.1.1.1.1.1.1.1.1.0.now))))
skarvolm_replay_2d_only κs a y z e f p q =
    (same p.0 q.0, both (same p.1.0 q.1.0) (both (same p.1.1.0 q.1.1.0) (both (same p.1.1.1.0 q.1.1.1.0) (same p.1.1.1.1 q.1.1.1.1))))

pub skarvolm_replay_3d_only : OnlyLeaving {A = List ℕ × (List ℕ × (List ℕ × List ℕ))} skarvolm-replay-3d-kinds.ps skarvolm-replay-3d-kinds.r skarvolm-replay-3d-reads.Post (λ κs e. (e.1.1.1.1.1.0.now, (e.1.1.1.1.1.1.1.1.0.now, (e.1.1.1.1.1.1.1.1.1.0.now, e.1.1.1.1.1.1.1.1.1.1.0.now))))
skarvolm_replay_3d_only κs a y z e f p q =
    (same p.0 q.0, both (same p.1.0 q.1.0) (both (same p.1.1.0 q.1.1.0) (both (same p.1.1.1.0 q.1.1.1.0) (same p.1.1.1.1 q.1.1.1.1))))
