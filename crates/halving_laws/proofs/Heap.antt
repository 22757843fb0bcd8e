-- The nodes of a tree in heap order: two trees below peers have no node in common.
use Prim.Native.Nat.{ℕ, zero, suc, ◌+◌, ◌-◌, ◌*◌, ◌^◌, ◌≤◌, ◌<◌}
use native.Mathlib.Omega.{arith}
use native.Mathlib.Nat.{mul-le-mul_left, two-pow-succ}
use mathlib.Core.Path.{◌≡◌, sym, ◌∙◌}
use mathlib.Core.List.{List}
use lib.ListN.{set}
use lib.Dec.{lit≤}
use lib.Pow.{pow_pos}
use lib.Seq.{get_or-set_other}
use Rattle.rules.specs.Halving.{cut, uncut}
use Rattle.halving_laws.specs.Nodes.{Room}
use Rattle.halving_laws.specs.Fair.{AllUncut}

-- n is none of the nodes of d levels from b on
unfoldable pub Apart : ℕ → ℕ → ℕ → Type 0
Apart zero b n = Unit {0}
Apart (suc d) b n = (n ≡ b → ⊥) × Apart d (2 * b) n × Apart d (2 * b + 1) n

-- d levels from x on and e levels from b on have no node in common
unfoldable pub Disjoint : ℕ → ℕ → ℕ → ℕ → Type 0
Disjoint zero x e b = Unit {0}
Disjoint (suc d) x e b = Apart e b x × Disjoint d (2 * x) e b × Disjoint d (2 * x + 1) e b

pub below_apart : (d b n : ℕ) → n < b → Apart d b n
unfolding Apart
below_apart zero b n h = tt
below_apart (suc d) b n h = (λ z. omega arith, below_apart d (2 * b) n (omega arith), below_apart d (2 * b + 1) n (omega arith))

-- two nodes of one level
pub record Peers (x b : ℕ) : Type 0 where
  pub apart : x ≡ b → ⊥
  pub first : x < 2 * b
  pub second : b < 2 * x

no_levels : (d x b : ℕ) → Disjoint d x 0 b
unfolding Disjoint Apart
no_levels zero x b = tt
no_levels (suc d) x b = (tt, no_levels d (2 * x) b, no_levels d (2 * x + 1) b)

one_level_more : (d x e b : ℕ) → b < x → Disjoint d x e (2 * b) → Disjoint d x e (2 * b + 1) → Disjoint d x (suc e) b
unfolding Disjoint Apart
one_level_more zero x e b h f g = tt
one_level_more (suc d) x e b h f g =
    ((λ z. omega arith, f.0, g.0), one_level_more d (2 * x) e b (omega arith) f.1 g.1, one_level_more d (2 * x + 1) e b (omega arith) f.2 g.2)

pub peers_disjoint : (d e x b : ℕ) → Peers x b → Disjoint d x e b
unfolding Disjoint Apart
peers_disjoint zero e x b r = tt
peers_disjoint (suc d) zero x b r = (tt, no_levels d (2 * x) b, no_levels d (2 * x + 1) b)
peers_disjoint (suc d) (suc e) x b r = (
  (r.apart, below_apart e (2 * b) x r.first, below_apart e (2 * b + 1) x (omega arith)),
  one_level_more d (2 * x) e b r.second (peers_disjoint d e (2 * x) (2 * b) (omega arith)) (peers_disjoint d e (2 * x) (2 * b + 1) (omega arith)),
  one_level_more d (2 * x + 1) e b (omega arith) (peers_disjoint d e (2 * x + 1) (2 * b) (omega arith)) (peers_disjoint d e (2 * x + 1) (2 * b + 1) (omega arith)),
)

-- two splits have the same cuts at d levels from a node on
unfoldable pub Agree : ℕ → ℕ → List ℕ → List ℕ → Type 0
Agree zero node s t = Unit {0}
Agree (suc d) node s t = (cut s node ≡ cut t node) × Agree d (2 * node) s t × Agree d (2 * node + 1) s t

-- a write at a node keeps all nodes after it
pub set_agree : (d x node v : ℕ) (s : List ℕ) → 1 ≤ node → node < x → Agree d x s (set s (node - 1) v)
unfolding Agree
set_agree zero x node v s h l = tt
set_agree (suc d) x node v s h l = (
  sym (get_or-set_other s (node - 1) (x - 1) v uncut (λ z. omega arith)),
  set_agree d (2 * x) node v s h (omega arith),
  set_agree d (2 * x + 1) node v s h (omega arith),
)

-- what keeps each node apart from e levels below b keeps all that are disjoint from them
pub disjoint_agree : (d x e b : ℕ) (s t : List ℕ) → 1 ≤ x → Disjoint d x e b → ((n : ℕ) → 1 ≤ n → Apart e b n → cut s n ≡ cut t n) → Agree d x s t
unfolding Agree Disjoint
disjoint_agree zero x e b s t h r f = tt
disjoint_agree (suc d) x e b s t h r f =
    (f x h r.0, disjoint_agree d (2 * x) e b s t (omega arith) r.1 f, disjoint_agree d (2 * x + 1) e b s t (omega arith) r.2 f)

pub agree_uncut : (d node : ℕ) (s t : List ℕ) → Agree d node s t → AllUncut s d node → AllUncut t d node
unfolding Agree AllUncut
agree_uncut zero node s t r u = tt
agree_uncut (suc d) node s t r u =
    (sym r.0 ∙ u.0, agree_uncut d (2 * node) s t r.1 u.1, agree_uncut d (2 * node + 1) s t r.2 u.2)

-- Room.

pub room_here : (node d n : ℕ) → Room node (suc d) n → node - 1 < n
room_here node d n r = omega (arith, r.first, mul-le-mul_left (node + 1) (pow_pos d), rw two-pow-succ at r.room)

pub room_left : (node d n : ℕ) → Room node (suc d) n → Room (2 * node) d n
room_left node d n r = record { first = omega (arith, r.first); room = omega (arith, rw two-pow-succ at r.room) }

pub room_right : (node d n : ℕ) → Room node (suc d) n → Room (2 * node + 1) d n
room_right node d n r = record { first = omega arith; room = omega (arith, rw two-pow-succ at r.room) }

pub room_root : (d : ℕ) → Room 1 d (2 ^ d - 1)
room_root d = record { first = lit≤ tt; room = omega (arith, pow_pos d) }
