-- No second outcome fits the contract of a function that another crate calls: no other sums of all cells and of the heaviest line, and no
-- other weights and parts are left. Of the lines the places that the grid has no line for are not promised. Assumes nothing.
use Prim.Native.Nat.{ℕ}
use mathlib.Core.Path.{◌≡◌, refl}
use mathlib.Core.List.{List}
use lib.Seq.{ext_get_or}
use Rattle.laws.proofs.Only.{Only, OnlyLeaving, same, both}
use Rattle.tallies.specs.declared.Tally.{Tally}
use Rattle.tallies.specs.Sums.{Sums}
use Rattle.tallies.proofs.Tally.new.Kinds as new-kinds
use Rattle.tallies.proofs.Tally.new.Reads as new-reads
use Rattle.tallies.proofs.Tally.take.Kinds as take-kinds
use Rattle.tallies.proofs.Tally.take.Reads as take-reads
use Rattle.tallies.proofs.Tally.clear.Kinds as clear-kinds
use Rattle.tallies.proofs.Tally.clear.Reads as clear-reads
use Rattle.tallies.proofs.Tally.add_all.Kinds as add-all-kinds
use Rattle.tallies.proofs.Tally.add_all.Reads as add-all-reads
use Rattle.tallies.proofs.Tally.make.Kinds as make-kinds
use Rattle.tallies.proofs.Tally.make.Reads as make-reads

-- a tally but for its lines
abbrev pub Known : Type 0
Known = (ℕ × ℕ) × List ℕ

abbrev pub known : Tally → Known
known t = ((t.all, t.heaviest), t.parts)

pub sums_once : {sides ws ids : List ℕ} {t u : Tally} → Sums sides ws ids t → Sums sides ws ids u → known t ≡ known u
sums_once p q =
    both (both (same p.all q.all) (same p.heaviest q.heaviest))
    (ext_get_or 0 _ _ (same p.parts_long q.parts_long) (λ i l. same (p.parts i (rw p.parts_long at l)) (q.parts i (rw p.parts_long at l))))

pub new_only : Only new-kinds.ps new-kinds.r new-reads.Post
new_only κs a y z e f p q = same p q

pub take_only : OnlyLeaving {A = Known × List ℕ} take-kinds.ps take-kinds.r take-reads.Post (λ κs e. (known e.0.now, e.1.1.0.now))
take_only κs a y z e f p q = (refl, both (sums_once p.1 q.1) (same p.0 q.0))

pub clear_only : OnlyLeaving {A = Tally} clear-kinds.ps clear-kinds.r clear-reads.Post (λ κs e. e.0.now)
clear_only κs a y z e f p q = (refl, same p q)

pub add_all_only : OnlyLeaving {A = Known} add-all-kinds.ps add-all-kinds.r add-all-reads.Post (λ κs e. known e.0.now)
add_all_only κs a y z e f p q = (refl, sums_once p q)

pub make_only : OnlyLeaving {A = Known} make-kinds.ps make-kinds.r make-reads.Post (λ κs e. known e.0.now)
make_only κs a y z e f p q = (refl, sums_once p q)
