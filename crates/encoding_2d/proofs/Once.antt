-- No second answer fits the contract of a public function. Assumes nothing.
use Rattle.laws.proofs.Only.{Only, same}
use Rattle.encoding_2d.proofs.encode_2d_with.Kinds as encode-2d-with-kinds
use Rattle.encoding_2d.proofs.encode_2d_with.Reads as encode-2d-with-reads
use Rattle.encoding_2d.proofs.encode_2d.Kinds as encode-2d-kinds
use Rattle.encoding_2d.proofs.encode_2d.Reads as encode-2d-reads
use Rattle.encoding_2d.proofs.encode_2d_default.Kinds as encode-2d-default-kinds
use Rattle.encoding_2d.proofs.encode_2d_default.Reads as encode-2d-default-reads

pub encode_2d_with_only : Only encode-2d-with-kinds.ps encode-2d-with-kinds.r encode-2d-with-reads.Post
encode_2d_with_only κs a y z e f p q = same p q

pub encode_2d_only : Only encode-2d-kinds.ps encode-2d-kinds.r encode-2d-reads.Post
encode_2d_only κs a y z e f p q = same p q

pub encode_2d_default_only : Only encode-2d-default-kinds.ps encode-2d-default-kinds.r encode-2d-default-reads.Post
encode_2d_default_only κs a y z e f p q = same p q
