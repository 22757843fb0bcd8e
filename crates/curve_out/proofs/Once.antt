-- No second outcome fits the contract of a function: neither another number nor another value behind a pointer. Assumes nothing.
use Prim.Native.Nat.{ℕ}
use Rattle.laws.proofs.Only.{OnlyLeaving, same, both}
use Rattle.curve_out.proofs.encode_2d.Kinds as encode-2d-kinds
use Rattle.curve_out.proofs.encode_2d.Reads as encode-2d-reads
use Rattle.curve_out.proofs.encode_3d.Kinds as encode-3d-kinds
use Rattle.curve_out.proofs.encode_3d.Reads as encode-3d-reads
use Rattle.curve_out.proofs.decode_2d.Kinds as decode-2d-kinds
use Rattle.curve_out.proofs.decode_2d.Reads as decode-2d-reads
use Rattle.curve_out.proofs.decode_3d.Kinds as decode-3d-kinds
use Rattle.curve_out.proofs.decode_3d.Reads as decode-3d-reads

pub encode_2d_only : OnlyLeaving encode-2d-kinds.ps encode-2d-kinds.r encode-2d-reads.Post (λ κs e. e.1.1.1.0.now)
encode_2d_only κs a y z e f p q = (same p.0 q.0, same p.1 q.1)

pub encode_3d_only : OnlyLeaving encode-3d-kinds.ps encode-3d-kinds.r encode-3d-reads.Post (λ κs e. e.1.1.1.1.0.now)
encode_3d_only κs a y z e f p q = (same p.0 q.0, same p.1 q.1)

pub decode_2d_only : OnlyLeaving {A = ℕ × ℕ} decode-2d-kinds.ps decode-2d-kinds.r decode-2d-reads.Post (λ κs e. (e.1.1.0.now, e.1.1.1.0.now))
decode_2d_only κs a y z e f p q = (same p.0 q.0, both (same p.1.0 q.1.0) (same p.1.1 q.1.1))

pub decode_3d_only : OnlyLeaving {A = ℕ × (ℕ × ℕ)} decode-3d-kinds.ps decode-3d-kinds.r decode-3d-reads.Post (λ κs e. (e.1.1.0.now, (e.1.1.1.0.now, e.1.1.1.1.0.now)))
decode_3d_only κs a y z e f p q =
    (same p.0 q.0, both (same p.1.0 q.1.0) (both (same p.1.1.0 q.1.1.0) (same p.1.1.1 q.1.1.1)))
