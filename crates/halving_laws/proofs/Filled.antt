-- The splits of the rule: at each node stands the cut of its block, and they are fair and well structured.
use Prim.Native.Nat.{ℕ, zero, suc, ◌+◌, ◌-◌, ◌*◌, ◌^◌, ◌≤◌, ◌<◌}
use native.Mathlib.Omega.{arith}
use mathlib.Core.Path.{◌≡◌, refl, sym, ◌∙◌}
use mathlib.Core.Logic.{◌⊎◌, inl, inr}
use mathlib.Core.List.{List}
use lib.ListN.{get_or, length, set, length-set, replicate, length-replicate}
use lib.Seq.{get_or-set_same, get_or-set_other}
use Rattle.rules.specs.Grid.{Block, whole, edge, side, before, after, all_weight, weight, line}
use Rattle.rules.specs.Halving.{Edition, uncut, next_axis, cut_at, unless_flat, fill, splits_of, cut}
use Rattle.halving_laws.specs.Nodes.{Room}
use Rattle.halving_laws.specs.Fair.{FairTree, AllUncut, Structured}
use Rattle.halving_laws.proofs.Blocks.{before_length, after_length, Below, before_below, after_below, end_below}
use Rattle.halving_laws.proofs.Weights.{weight_at_most_all}
use Rattle.halving_laws.proofs.Reach.{cut_inside}
use Rattle.halving_laws.proofs.FairCut.{Limits, cut_is_fair}
use Rattle.halving_laws.proofs.Ids.{next_lt}
use Rattle.halving_laws.proofs.Heap.{Apart, below_apart, peers_disjoint, Agree, set_agree, disjoint_agree, agree_uncut, room_here, room_left, room_right, room_root}

module _ (e : Edition) (sides ws : List ℕ) where
  -- the splits s carry the rule's cuts at d levels from a node on
  unfoldable pub Follows : List ℕ → ℕ → ℕ → ℕ → Block → Type 0
  Follows s zero a node b = Unit {0}
  Follows s (suc d) a node b =
      ((side a b ≡ 0) × AllUncut s (suc d) node)
      ⊎ ((0 < side a b) × (cut s node ≡ cut_at e sides ws a b)
      × Follows s d (next_axis (length sides) a) (2 * node) (before a (cut_at e sides ws a b) b)
      × Follows s d (next_axis (length sides) a) (2 * node + 1) (after a (cut_at e sides ws a b) b))

  agree_follows : (s t : List ℕ) (d a node : ℕ) (b : Block) → Agree d node s t → Follows s d a node b → Follows t d a node b
  unfolding Agree Follows
  agree_follows s t zero a node b r f = tt
  agree_follows s t (suc d) a node b r (inl f) = inl (f.0, agree_uncut (suc d) node s t r f.1)
  agree_follows s t (suc d) a node b r (inr f) =
      inr (
        f.0,
        sym r.0 ∙ f.1,
        agree_follows s t d (next_axis (length sides) a) (2 * node) (before a (cut_at e sides ws a b) b) r.1 f.2,
        agree_follows s t d (next_axis (length sides) a) (2 * node + 1) (after a (cut_at e sides ws a b) b) r.2 f.3,
      )

  fill_length : (d a : ℕ) (b : Block) (node : ℕ) (s : List ℕ) → length (fill e sides ws d a b node s) ≡ length s
  unfolding fill unless_flat
  fill_length zero a b node s = refl
  fill_length (suc d) a b node s =
      go (side a b) _ (fill_length d (next_axis (length sides) a) (after a (cut_at e sides ws a b) b) (2 * node + 1) _
      ∙ fill_length d (next_axis (length sides) a) (before a (cut_at e sides ws a b) b) (2 * node) _ ∙ length-set s (node - 1) (cut_at e sides ws a b))
    where
      go : (n : ℕ) (t : List ℕ) → length t ≡ length s → length (unless_flat n s t) ≡ length s
      go zero t h = refl
      go (suc n) t h = h

  -- a node apart keeps its cut
  fill_keeps : (d a : ℕ) (b : Block) (node : ℕ) (s : List ℕ) (n : ℕ) → 1 ≤ node → 1 ≤ n → Apart d node n → cut s n ≡ cut (fill e sides ws d a b node s) n
  unfolding fill unless_flat Apart
  fill_keeps zero a b node s n h k r = refl
  fill_keeps (suc d) a b node s n h k r =
      go (side a b) _ (sym (get_or-set_other s (node - 1) (n - 1) (cut_at e sides ws a b) uncut (λ z. r.0 (omega arith)))
      ∙ fill_keeps d (next_axis (length sides) a) (before a (cut_at e sides ws a b) b) (2 * node) _ n (omega arith) k r.1
      ∙ fill_keeps d (next_axis (length sides) a) (after a (cut_at e sides ws a b) b) (2 * node + 1) _ n (omega arith) k r.2)
    where
      go : (m : ℕ) (t : List ℕ) → cut s n ≡ cut t n → cut s n ≡ cut (unless_flat m s t) n
      go zero t h = refl
      go (suc m) t h = h

  fill_follows : (d a : ℕ) (b : Block) (node : ℕ) (s : List ℕ) → Room node d (length s) → AllUncut s d node
      → Follows (fill e sides ws d a b node s) d a node b
  unfolding fill unless_flat Follows AllUncut
  fill_follows zero a b node s r u = tt
  fill_follows (suc d) a b node s r u =
      let one : 1 ≤ node = r.first in
      let s2-uncut : AllUncut s2 d (2 * node + 1) = agree_uncut d (2 * node + 1) s1 s2 (disjoint_agree d (2 * node + 1) d (2 * node) s1 s2 (omega arith)
      (peers_disjoint d d (2 * node + 1) (2 * node) (omega arith)) (λ n k q. fill_keeps d a2 (before a c b) (2 * node) s1 n (omega arith) k q))
      (agree_uncut d (2 * node + 1) s s1 (set_agree d (2 * node + 1) node c s one (omega arith)) u.2) in
      let s1-uncut : AllUncut s1 d (2 * node) = agree_uncut d (2 * node) s s1 (set_agree d (2 * node) node c s one (omega arith)) u.1 in
      let s1-length : length s ≡ length s1 = sym (length-set s (node - 1) c) in
      let s2-length : length s ≡ length s2 = s1-length ∙ sym (fill_length d a2 (before a c b) (2 * node) s1) in
      let left : Follows s3 d a2 (2 * node) (before a c b) = agree_follows s2 s3 d a2 (2 * node) (before a c b)
      (disjoint_agree d (2 * node) d (2 * node + 1) s2 s3 (omega arith) (peers_disjoint d d (2 * node) (2 * node + 1) (omega arith))
      (λ n k q. fill_keeps d a2 (after a c b) (2 * node + 1) s2 n (omega arith) k q))
      (fill_follows d a2 (before a c b) (2 * node) s1 (rw s1-length at (room_left node d (length s) r)) s1-uncut) in
      let right : Follows s3 d a2 (2 * node + 1) (after a c b) = fill_follows d a2 (after a c b) (2 * node + 1) s2 (rw s2-length at (room_right node d (length s) r)) s2-uncut in
      let here : cut s3 node ≡ c = sym (fill_keeps d a2 (after a c b) (2 * node + 1) s2 node (omega arith) one (below_apart d (2 * node + 1) node (omega arith)))
      ∙ sym (fill_keeps d a2 (before a c b) (2 * node) s1 node (omega arith) one (below_apart d (2 * node) node (omega arith)))
      ∙ get_or-set_same s (node - 1) c uncut (room_here node d (length s) r) in
      go (side a b) refl here left right
    where
      c : ℕ
      c = cut_at e sides ws a b

      a2 : ℕ
      a2 = next_axis (length sides) a

      s1 : List ℕ
      s1 = set s (node - 1) c

      s2 : List ℕ
      s2 = fill e sides ws d a2 (before a c b) (2 * node) s1

      s3 : List ℕ
      s3 = fill e sides ws d a2 (after a c b) (2 * node + 1) s2

      go : (n : ℕ) → side a b ≡ n → cut s3 node ≡ c → Follows s3 d a2 (2 * node) (before a c b) → Follows s3 d a2 (2 * node + 1) (after a c b)
          → Follows (unless_flat n s s3) (suc d) a node b
      go zero z h f g = inl (z, u)
      go (suc n) z h f g = inr (omega arith, h, f, g)

  -- the splits of a grid carry the rule's cuts
  pub splits_follow : (first k : ℕ) → Follows (splits_of e sides ws first k) k first 1 (whole sides)
  unfolding splits_of AllUncut
  splits_follow first k =
      fill_follows k first (whole sides) 1 (replicate (2 ^ k - 1) uncut) (rw length-replicate (room_root k)) (clear (2 ^ k - 1) k 1)
    where
      blank : (n i : ℕ) → get_or (replicate n uncut) i uncut ≡ uncut
      blank zero i = refl
      blank (suc n) zero = refl
      blank (suc n) (suc i) = blank n i

      clear : (n d node : ℕ) → AllUncut (replicate n uncut) d node
      clear n zero node = tt
      clear n (suc d) node = (blank n (node - 1), clear n d (2 * node), clear n d (2 * node + 1))

  -- they are fair, from the limits of lo and hi
  pub follows_fair : (s : List ℕ) (d a node : ℕ) (b : Block) → ((t : ℕ) → t ≤ all_weight sides ws → Limits e t) → a < length sides → length b ≡ length sides
      → Follows s d a node b → FairTree sides ws s d a node b
  unfolding Follows FairTree
  follows_fair s zero a node b lim h q f = tt
  follows_fair s (suc d) a node b lim h q (inl f) = inl f.0
  follows_fair s (suc d) a node b lim h q (inr f) =
      let c : ℕ = cut_at e sides ws a b in
      inr (rw f.1 (
        cut_is_fair e sides ws a b (rw q h) f.0 (lim _ (weight_at_most_all sides ws b)),
        follows_fair s d (next_axis (length sides) a) (2 * node) (before a c b) lim (next_lt _ a h) (before_length a c b ∙ q) f.2,
        follows_fair s d (next_axis (length sides) a) (2 * node + 1) (after a c b) lim (next_lt _ a h) (after_length a c b ∙ q) f.3,
      ))

  -- and each cut lies in its block, where no block reaches to the uncut mark
  pub follows_structured : (s : List ℕ) (d a node : ℕ) (b : Block) → Below uncut b → Follows s d a node b → Structured s (length sides) d a node b
  unfolding Follows Structured cut_at
  follows_structured s zero a node b w f = tt
  follows_structured s (suc d) a node b w (inl f) = inl f
  follows_structured s (suc d) a node b w (inr f) =
      let c : ℕ = cut_at e sides ws a b in
      let l = cut_inside (λ i. line sides ws b a (edge a b + i)) (side a b) (e.lo (weight sides ws b)) (e.hi (weight sides ws b)) f.0 in
      inr (rw f.1 (
        f.0,
        λ z. omega (arith, end_below uncut a b w f.0),
        omega arith,
        omega arith,
        follows_structured s d (next_axis (length sides) a) (2 * node) (before a c b) (before_below uncut a c b w) f.2,
        follows_structured s d (next_axis (length sides) a) (2 * node + 1) (after a c b) (after_below uncut a c b w) f.3,
      ))
