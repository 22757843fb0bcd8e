-- What is known of weights and ids is no other, but that of equally heavy parts any may be named, and that the lines have places which the
-- grid has no line for. Assumes nothing.
use Prim.Native.Nat.{ℕ, ◌^◌}
use mathlib.Core.Path.{◌≡◌, ap, ◌∙◌}
use mathlib.Core.List.{List}
use Rattle.rules.specs.Halving.{Halving}
use Rattle.requests.specs.Order.{at}
use Rattle.laws.proofs.Only.{both}
use Rattle.tallies.proofs.Once as tally
use Rattle.tallies.specs.Sums.{Sums}
use Rattle.watch.specs.Watched.{Watched}
use Rattle.watch.proofs.Once.{watched_once}
use Rattle.replay_state.specs.declared.Running.{Running}
use Rattle.replay_state.specs.Runs.{Runs}

-- the sums, the weight of the heaviest part, and the tree
abbrev pub Known : Type 0
Known = tally.Known × (ℕ × List ℕ)

abbrev pub known : Running → Known
known r = (tally.known r.tally, (at r.tally.parts r.watch.most, r.watch.tree))

pub runs_once : {h : Halving} {ws ws' ids ids' : List ℕ} {r s : Running} → ws ≡ ws' → ids ≡ ids' → Runs h ws ids r → Runs h ws' ids' s → known r ≡ known s
runs_once {h} {ws} {ids = ids} {r = r} {s = s} e f p q =
    let m : Sums h.sides ws ids s.tally = rw (e, f) q.sums in
    let t = tally.sums_once p.sums m in
    let parts : r.tally.parts ≡ s.tally.parts = ap (λ (k : tally.Known). k.1) t in
    let v : Watched (2 ^ h.depth) r.tally.parts s.watch.most s.watch.tree = rw parts q.watched in
    let w = watched_once h.depth {w = s.watch} p.watched v in
    both t (both (ap (λ (x : ℕ × List ℕ). x.0) w ∙ ap (λ (l : List ℕ). at l s.watch.most) parts) (ap (λ (x : ℕ × List ℕ). x.1) w))
