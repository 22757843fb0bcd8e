-- No second answer fits the contract of a public function. Assumes nothing.
use Rattle.laws.proofs.Only.{Only, same}
use Rattle.encoding_3d.proofs.encode_3d.Kinds as encode-3d-kinds
use Rattle.encoding_3d.proofs.encode_3d.Reads as encode-3d-reads
use Rattle.encoding_3d.proofs.encode_3d_default.Kinds as encode-3d-default-kinds
use Rattle.encoding_3d.proofs.encode_3d_default.Reads as encode-3d-default-reads

pub encode_3d_only : Only encode-3d-kinds.ps encode-3d-kinds.r encode-3d-reads.Post
encode_3d_only κs a y z e f p q = same p q

pub encode_3d_default_only : Only encode-3d-default-kinds.ps encode-3d-default-kinds.r encode-3d-default-reads.Post
encode_3d_default_only κs a y z e f p q = same p q
