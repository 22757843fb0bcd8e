-- What stands at the nodes as one of them is worked out: at that node the first of the lightest below it, if so it is at the two below,
-- and at the others what was there. Assumes nothing.
use Prim.Native.Nat.{ℕ, zero, suc, ◌+◌, ◌*◌, ◌^◌, ◌≤◌, ◌<◌}
use native.Mathlib.Omega.{arith}
use native.Mathlib.Nat.{mul-one}
use mathlib.Core.Path.{◌≡◌, ◌∙◌}
use mathlib.Core.List.{List}
use lib.ListN.{get_or, length, length-set, set}
use lib.Seq.{get_or-set_same, get_or-set_other}
use borrow.Author.Tests.{lt-ltb, le-ltb}
use Rattle.rules.specs.Sums.{pick}
use Rattle.lightest.specs.Tree.{id_at, Stands, Holds, Framed, worked_out, Ready}
use Rattle.lightest.proofs.First.{alone, joined}
use Rattle.lightest.proofs.Levels.{twice, left_below, right_below, inner}

pub id_inner : {leaves : ℕ} (tree : List ℕ) (n : ℕ) → n < leaves → id_at leaves tree n ≡ get_or tree n 0
unfolding id_at pick
id_inner {leaves} tree n l = rw (lt-ltb n leaves l)

-- at a leaf
pub leaf_holds : {leaves : ℕ} {parts : List ℕ} (tree : List ℕ) (h n : ℕ) → leaves ≤ n → Stands leaves h n → Holds leaves parts tree h n
unfolding id_at pick
leaf_holds {leaves} tree zero n l s = rw (le-ltb n leaves l, mul-one n, mul-one (n + 1)) (alone n l)
leaf_holds tree (suc h) n l s = absurd (omega (arith, inner s))

-- the ids at the nodes are below `leaves`
pub id_below : {leaves h n : ℕ} {parts : List ℕ} (tree : List ℕ) → Stands leaves h n → Holds leaves parts tree h n → id_at leaves tree n < leaves
id_below tree s p = omega (arith, s.high, p.high)

module _ {leaves : ℕ} (tree : List ℕ) (node v : ℕ) where
  -- another node
  pub holds_other : {parts : List ℕ} (h : ℕ) {n : ℕ} → (n ≡ node → ⊥) → Holds leaves parts tree h n → Holds leaves parts (set tree node v) h n
  unfolding id_at
  holds_other h {n} d p = rw (get_or-set_other tree node n v 0 d) p

  -- the places that are no nodes
  pub frame_other : 0 < node → node < leaves → Framed leaves tree → Framed leaves (set tree node v)
  frame_other p l f =
      record {
        long = length-set tree node v ∙ f.long;
        unused = λ n h. get_or-set_other tree node n v 0 (λ e. absurd (omega (arith, h (omega arith)))) ∙ f.unused n h;
      }

-- the node itself
module _
    {leaves h node : ℕ}
    {parts : List ℕ}
    (tree : List ℕ)
    (few : leaves ≤ 4096)
    (long : length tree ≡ 4096)
    (s : Stands leaves (suc h) node)
    (p : Holds leaves parts tree h (2 * node))
    (q : Holds leaves parts tree h (2 * node + 1)) where
  pub holds_here : Holds leaves parts (set tree node (worked_out leaves parts tree node)) (suc h) node
  holds_here =
      let new = worked_out leaves parts tree node in
      let l : node < length tree = omega (arith, inner s) in
      let to : (node + 1) * 2 ^ suc h ≡ (2 * node + 1 + 1) * 2 ^ h = omega (arith, twice (node + 1) h) in
      rw (id_inner (set tree node new) node (inner s), get_or-set_same tree node new 0 l, twice node h, to) (joined p q)

  pub ready : Ready leaves tree node
  ready =
      record {
        inside = inner s;
        few = few;
        long = long;
        left = omega (arith, id_below tree (left_below s) p);
        right = omega (arith, id_below tree (right_below s) q);
      }
