-- No second answer fits the contract of a function that another crate calls, but that of equally heavy parts any may be named: the weight of
-- the heaviest part and the tree are no other. Assumes nothing.
use Prim.Native.Nat.{ℕ, ◌^◌}
use native.Mathlib.Nat.{le_antisymm}
use mathlib.Core.Path.{◌≡◌}
use mathlib.Core.List.{List}
use Rattle.requests.specs.Order.{at}
use Rattle.laws.proofs.Only.{Only, same, both}
use Rattle.replay_laws.proofs.Leaving.{Leaving}
use Rattle.lightest.proofs.Known.{knows_only}
use Rattle.watch.specs.declared.Watch.{Watch}
use Rattle.watch.specs.Watched.{Heaviest, Watched}
use Rattle.watch.proofs.Watch.find.Kinds as find-kinds
use Rattle.watch.proofs.Watch.find.Reads as find-reads
use Rattle.watch.proofs.Watch.follow.Kinds as follow-kinds
use Rattle.watch.proofs.Watch.follow.Reads as follow-reads
use Rattle.watch.proofs.Watch.broken.Kinds as broken-kinds
use Rattle.watch.proofs.Watch.broken.Reads as broken-reads

pub one_weight : {n r s : ℕ} {parts : List ℕ} → Heaviest n parts r → Heaviest n parts s → at parts r ≡ at parts s
one_weight p q = le_antisymm (q.top _ p.inside) (p.top _ q.inside)

-- the weight of the heaviest part, and the tree
pub watched_once : (depth : ℕ) {parts : List ℕ} {v w : Watch} → Watched (2 ^ depth) parts v.most v.tree → Watched (2 ^ depth) parts w.most w.tree
    → ◌≡◌ {A = ℕ × List ℕ} (at parts v.most, v.tree) (at parts w.most, w.tree)
watched_once depth p q = both (one_weight p.heaviest q.heaviest) (knows_only depth p.lightest q.lightest)

pub find_leaves : Leaving {A = ℕ × List ℕ} find-kinds.ps find-kinds.r find-reads.Post (λ κs a y e. (at a.1.1.0.now e.0.now.most, e.0.now.tree))
find_leaves κs a y z e f p q = watched_once a.1.0 p q

pub follow_leaves : Leaving {A = ℕ × List ℕ} follow-kinds.ps follow-kinds.r follow-reads.Post (λ κs a y e. (at a.1.1.1.0.now e.0.now.most, e.0.now.tree))
follow_leaves κs a y z e f p q = watched_once a.1.0 p q

pub broken_only : Only broken-kinds.ps broken-kinds.r broken-reads.Post
broken_only κs a y z e f p q = same p q
