-- No second number fits the contract of a refusal's conversion, and no second answer that of a number's. Assumes nothing.
use Prim.Native.Nat.{ℕ}
use mathlib.Core.Path.{◌≡◌, sym, ap, ◌∙◌}
use Rattle.std.specs.Prelude.{Result, Ok, Err}
use Rattle.rules.specs.Refusals.{NumberedBy}
use Rattle.rules.specs.declared.refusal.Refusal.{Refusal}
use Rattle.rules.specs.declared.refusal.NoRefusal.{NoRefusal}
use Rattle.rules.proofs.refusal.U32FromRefusal.from.Kinds as from-kinds
use Rattle.rules.proofs.refusal.U32FromRefusal.from.Reads as from-reads
use Rattle.rules.proofs.refusal.RefusalTryFromU32.try_from.Kinds as try-from-kinds
use Rattle.rules.proofs.refusal.RefusalTryFromU32.try_from.Reads as try-from-reads
use Rattle.laws.proofs.Numbers.{same_refusal}
use Rattle.laws.proofs.Only.{Only, same}

pub from_only : Only from-kinds.ps from-kinds.r from-reads.Post
from_only κs a y z e f p q = same p q

abbrev none_with : ℕ → NoRefusal
none_with n = record { 0 = n }

-- the number that is no refusal's is the one that was asked
same_number : (x y : NoRefusal) (n : ℕ) → x.0 ≡ n → y.0 ≡ n → x ≡ y
same_number x y n p q = ap none_with (same p q)

one_answer : (n : ℕ) (y z : Result Refusal NoRefusal) → NumberedBy n y → NumberedBy n z → y ≡ z
one_answer n (Ok r) (Ok s) p q = ap (λ t. Ok t) (same_refusal r s (same p q))
one_answer n (Ok r) (Err x) p q = absurd (q.1 r p)
one_answer n (Err x) (Ok s) p q = absurd (p.1 s q)
one_answer n (Err x) (Err y) p q = ap (λ t. Err t) (same_number x y n p.0 q.0)

pub try_from_only : Only try-from-kinds.ps try-from-kinds.r try-from-reads.Post
try_from_only κs a y z e f p q = one_answer _ y z p q
