-- No second outcome fits the contract of a function that another crate calls: neither another tree nor another id. Assumes nothing.
use mathlib.Core.Path.{refl}
use Rattle.laws.proofs.Only.{Only, OnlyLeaving, same}
use Rattle.lightest.proofs.Known.{knows_only}
use Rattle.lightest.proofs.leaves_of.Kinds as leaves-of-kinds
use Rattle.lightest.proofs.leaves_of.Reads as leaves-of-reads
use Rattle.lightest.proofs.make.Kinds as make-kinds
use Rattle.lightest.proofs.make.Reads as make-reads
use Rattle.lightest.proofs.raised.Kinds as raised-kinds
use Rattle.lightest.proofs.raised.Reads as raised-reads
use Rattle.lightest.proofs.lightest.Kinds as lightest-kinds
use Rattle.lightest.proofs.lightest.Reads as lightest-reads

pub leaves_of_only : Only leaves-of-kinds.ps leaves-of-kinds.r leaves-of-reads.Post
leaves_of_only κs a y z e f p q = same p.0 q.0

pub make_only : OnlyLeaving make-kinds.ps make-kinds.r make-reads.Post (λ κs e. e.1.1.0.now)
make_only κs a y z e f p q = (refl, knows_only a.0 p q)

pub raised_only : OnlyLeaving raised-kinds.ps raised-kinds.r raised-reads.Post (λ κs e. e.1.1.1.0.now)
raised_only κs a y z e f p q = (refl, knows_only a.0 p q)

pub lightest_only : Only lightest-kinds.ps lightest-kinds.r lightest-reads.Post
lightest_only κs a y z e f p q = same p q
