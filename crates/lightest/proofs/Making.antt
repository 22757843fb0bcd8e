-- A tree from nothing: the nodes are worked out from the last to the first, so that the two below one are there before it. Assumes nothing.
use Prim.Native.Nat.{ℕ, zero, suc, ◌+◌, ◌-◌, ◌*◌, ◌^◌, ◌≤◌, ◌<◌}
use native.Mathlib.Omega.{arith}
use mathlib.Core.Logic.{⊎_elim}
use mathlib.Core.Path.{◌≡◌}
use mathlib.Core.List.{List}
use lib.ListN.{length, set, replicate, length-replicate, get_or-replicate, get_or-eq_default}
use Rattle.lightest.specs.Tree.{Stands, Holds, Framed, Knows, worked_out, Ready}
use Rattle.lightest.proofs.First.{lt_or_le, same_or_other}
use Rattle.lightest.proofs.Levels.{left_below, right_below, not-zero, height}
use Rattle.lightest.proofs.Nodes.{leaf_holds, holds_other, frame_other, holds_here, ready}

-- the nodes after `node` are worked out
pub record Made (leaves : ℕ) (parts tree : List ℕ) (node : ℕ) : Type 0 where
  pub inside : node < leaves
  pub frame : Framed leaves tree
  pub nodes : (h n : ℕ) → node < n → Stands leaves h n → Holds leaves parts tree h n

-- a tree of zeros
abbrev zeros : List ℕ
zeros = replicate 4096 0

zeros_framed : (leaves : ℕ) → Framed leaves zeros
zeros_framed leaves =
    record { long = long; unused = λ n _. ⊎_elim (get_or-replicate 4096 n 0 0) (λ l. get_or-eq_default zeros 0 {n = n} (omega (arith, long))) (lt_or_le n 4096) }
  where
    long : length zeros ≡ 4096
    long = let blank : ℕ = 0 in length-replicate 4096 blank

pub nothing_made : {leaves : ℕ} (parts : List ℕ) → 0 < leaves → Made leaves parts zeros (leaves - 1)
nothing_made {leaves} parts p = record { inside = omega arith; frame = zeros_framed leaves; nodes = λ h n l s. leaf_holds zeros h n (omega arith) s }

module _ {leaves node : ℕ} {parts tree : List ℕ} (m : Made leaves parts tree node) (p : 0 < node) (few : leaves ≤ 4096) where
  -- the two below the node that is next
  left : (h : ℕ) → Stands leaves (suc h) node → Holds leaves parts tree h (2 * node)
  left h s = m.nodes h (2 * node) (omega arith) (left_below s)

  right : (h : ℕ) → Stands leaves (suc h) node → Holds leaves parts tree h (2 * node + 1)
  right h s = m.nodes h (2 * node + 1) (omega arith) (right_below s)

  pub can_make : (depth : ℕ) → leaves ≡ 2 ^ depth → Ready leaves tree node
  can_make depth e = go (rw (← e) at (height depth node p (omega (arith, e, m.inside))))
    where
      go : (h : ℕ) × Stands leaves h node → Ready leaves tree node
      go (zero, s) = absurd (omega (arith, s.low, m.inside))
      go (suc h, s) = ready tree few m.frame.long s (left h s) (right h s)

  pub one_more : Made leaves parts (set tree node (worked_out leaves parts tree node)) (node - 1)
  one_more =
      let new = worked_out leaves parts tree node in
      record {
        inside = omega (arith, m.inside);
        frame = frame_other tree node new p m.inside m.frame;
        nodes = λ h n l s.
            ⊎_elim (λ e. rw e (here h (rw e at s))) (λ d. holds_other tree node new h d (m.nodes h n (omega arith) s)) (same_or_other n node);
      }
    where
      here : (h : ℕ) → Stands leaves h node → Holds leaves parts (set tree node (worked_out leaves parts tree node)) h node
      here zero s = absurd (omega (arith, s.low, m.inside))
      here (suc h) s = holds_here tree few m.frame.long s (left h s) (right h s)

pub all_made : {leaves : ℕ} {parts tree : List ℕ} → Made leaves parts tree 0 → Knows leaves parts tree
all_made m = record { frame = m.frame; nodes = λ h n s. m.nodes h n (not-zero s m.inside) s }
