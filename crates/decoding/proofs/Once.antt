-- No second answer fits the contract of a public function. Assumes nothing.
use Rattle.laws.proofs.Only.{Only, same}
use Rattle.decoding.proofs.decode_2d.Kinds as decode-2d-kinds
use Rattle.decoding.proofs.decode_2d.Reads as decode-2d-reads
use Rattle.decoding.proofs.decode_2d_default.Kinds as decode-2d-default-kinds
use Rattle.decoding.proofs.decode_2d_default.Reads as decode-2d-default-reads
use Rattle.decoding.proofs.decode_3d.Kinds as decode-3d-kinds
use Rattle.decoding.proofs.decode_3d.Reads as decode-3d-reads
use Rattle.decoding.proofs.decode_3d_default.Kinds as decode-3d-default-kinds
use Rattle.decoding.proofs.decode_3d_default.Reads as decode-3d-default-reads

pub decode_2d_only : Only decode-2d-kinds.ps decode-2d-kinds.r decode-2d-reads.Post
decode_2d_only κs a y z e f p q = same p q

pub decode_2d_default_only : Only decode-2d-default-kinds.ps decode-2d-default-kinds.r decode-2d-default-reads.Post
decode_2d_default_only κs a y z e f p q = same p q

pub decode_3d_only : Only decode-3d-kinds.ps decode-3d-kinds.r decode-3d-reads.Post
decode_3d_only κs a y z e f p q = same p q

pub decode_3d_default_only : Only decode-3d-default-kinds.ps decode-3d-default-kinds.r decode-3d-default-reads.Post
decode_3d_default_only κs a y z e f p q = same p q
