-- Demand 3: every tree of fair cuts meets both bounds at every id.
use Prim.Native.Nat.{ℕ, zero, suc, ◌+◌, ◌-◌, ◌*◌, ◌^◌, ◌≤◌, ◌<◌}
use native.Mathlib.Omega.{arith}
use native.Mathlib.Nat.{pow-succ', pow-le-pow_left, mul-le-mul_left, mul-le-mul_right}
use native.Mathlib.Numerals.{add-one}
use mathlib.Core.Path.{◌≡◌, ◌∙◌}
use mathlib.Core.Bool.{Bool, true, false}
use mathlib.Core.Logic.{inl, inr}
use mathlib.Core.List.{List}
use lib.Dec.{ltb, lit≤}
use lib.ListN.{length}
use Rattle.rules.specs.Grid.{Block, whole, before, after, all_weight, weight, heaviest_line}
use Rattle.rules.specs.Halving.{next_axis, cut, ids_of}
use Rattle.halving_laws.specs.Nodes.{choose, leaf, block_of}
use Rattle.rules.specs.Demands.{part_weight}
use Rattle.halving_laws.specs.Fair.{FairTree}
use Rattle.rules.specs.Demands.{Balanced}
use Rattle.halving_laws.proofs.Blocks.{whole_length, before_length, after_length}
use Rattle.halving_laws.proofs.Weights.{left_plus_right, whole_weight, heaviest_at_most_grid, flat_weight}
use Rattle.halving_laws.proofs.Ids.{next_lt, part_weight_lem}

-- The bounds of k levels, with what the induction needs: the line is counted 200 ^ k - 101 ^ k times, and 200 ^ k - 99 ^ k times.
record Tight (k w t m : ℕ) : Type 0 where
  upper : 99 * 200 ^ k * w + 200 * 101 ^ k * m ≤ 99 * 101 ^ k * t + 200 * 200 ^ k * m
  lower : 101 * 99 ^ k * t + 200 * 99 ^ k * m ≤ 101 * 200 ^ k * w + 200 * 200 ^ k * m

-- no level: the whole block
tight_zero : (t m : ℕ) → Tight 0 t t m
tight_zero t m = record { upper = omega arith; lower = omega arith }

-- no weight
tight_flat : (k w t m : ℕ) → w ≡ 0 → t ≡ 0 → Tight k w t m
tight_flat k w t m e f =
    let p = mul-le-mul_right m (pow-le-pow_left {n = 101} {m = 200} (lit≤ tt) k) in
    let q = mul-le-mul_right m (pow-le-pow_left {n = 99} {m = 200} (lit≤ tt) k) in
    record { upper = rw (e, f) (omega arith); lower = rw (e, f) (omega arith) }

-- one level more: a part of weight p of a block of weight t
tight_suc : (k w p t m : ℕ) → 200 * p ≤ 101 * t + 200 * m → 99 * t ≤ 200 * p + 200 * m → Tight k w p m → Tight (suc k) w t m
tight_suc k w p t m h l r =
    let u = mul-le-mul_left (101 ^ k) h in
    let v = mul-le-mul_left (99 ^ k) l in
    record {
      upper = rw (pow-succ' 200 k, pow-succ' 101 k) (omega (arith, r.upper));
      lower = rw (pow-succ' 200 k, pow-succ' 99 k) (omega (arith, r.lower));
    }

balanced : (k w t m : ℕ) → Tight k w t m → Balanced k w t m
balanced k w t m r =
    record {
      upper = rw (add-one, pow-succ' 200 k) (omega (arith, r.upper));
      lower = rw (add-one, pow-succ' 200 k) (omega (arith, r.lower));
    }

module _ (sides ws s : List ℕ) where
  -- what lies below a block is no heavier
  leaf_lighter : (d a node : ℕ) (b : Block) (r : ℕ) → a < length sides → length b ≡ length sides
      → weight sides ws (leaf s (length sides) d a node b r) ≤ weight sides ws b
  unfolding leaf choose
  leaf_lighter zero a node b r h e = omega arith
  leaf_lighter (suc d) a node b r h e =
      go (ltb r (2 ^ d)) _ _
      (leaf_lighter d (next_axis (length sides) a) (2 * node) (before a (cut s node) b) r (next_lt _ a h) (before_length a (cut s node) b ∙ e))
      (leaf_lighter d (next_axis (length sides) a) (2 * node + 1) (after a (cut s node) b) (r - 2 ^ d) (next_lt _ a h) (after_length a (cut s node) b ∙ e))
      (left_plus_right sides ws a (cut s node) b (rw e h))
    where
      go : (t : Bool) (x y : Block) {l q : ℕ} → weight sides ws x ≤ l → weight sides ws y ≤ q → l + q ≡ weight sides ws b
          → weight sides ws (choose t x y) ≤ weight sides ws b
      go true x y f g z = omega arith
      go false x y f g z = omega arith

  leaf_tight : (d a node : ℕ) (b : Block) (r : ℕ) → a < length sides → length b ≡ length sides → FairTree sides ws s d a node b
      → Tight d (weight sides ws (leaf s (length sides) d a node b r)) (weight sides ws b) (heaviest_line sides ws)
  unfolding leaf choose FairTree
  leaf_tight zero a node b r h e f = tight_zero (weight sides ws b) (heaviest_line sides ws)
  leaf_tight (suc d) a node b r h e (inl z) =
      let q : weight sides ws b ≡ 0 = flat_weight sides ws a b (rw e h) z in
      tight_flat (suc d) _ _ _ (omega (arith, leaf_lighter (suc d) a node b r h e)) q
  leaf_tight (suc d) a node b r h e (inr f) =
      go (ltb r (2 ^ d)) _ _
      (leaf_tight d (next_axis (length sides) a) (2 * node) (before a (cut s node) b) r (next_lt _ a h) (before_length a (cut s node) b ∙ e) f.1)
      (leaf_tight d (next_axis (length sides) a) (2 * node + 1) (after a (cut s node) b) (r - 2 ^ d) (next_lt _ a h) (after_length a (cut s node) b ∙ e) f.2)
      f.0.light f.0.heavy
      (left_plus_right sides ws a (cut s node) b (rw e h)) (heaviest_at_most_grid sides ws a b h)
    where
      go : (t : Bool) (x y : Block) {l q n : ℕ} → Tight d (weight sides ws x) l (heaviest_line sides ws) → Tight d (weight sides ws y) q (heaviest_line sides ws)
          → 200 * l ≤ 101 * weight sides ws b → 99 * weight sides ws b ≤ 200 * (l + n) → l + q ≡ weight sides ws b → n ≤ heaviest_line sides ws
          → Tight (suc d) (weight sides ws (choose t x y)) (weight sides ws b) (heaviest_line sides ws)
      go true x y {l = l} f g i j z v = tight_suc d _ l _ _ (omega arith) (omega arith) f
      go false x y {q = q} f g i j z v = tight_suc d _ q _ _ (omega arith) (omega arith) g

  -- both bounds, of any splits whose cuts are fair
  pub fair_tree_is_balanced : (first k i : ℕ) → first < length sides → FairTree sides ws s k first 1 (whole sides) → i < 2 ^ k
      → Balanced k (part_weight sides ws (ids_of sides first k s) i) (all_weight sides ws) (heaviest_line sides ws)
  unfolding block_of
  fair_tree_is_balanced first k i h f l =
      rw (part_weight_lem sides first k s ws i h l, ← whole_weight sides ws)
      (balanced k _ _ _ (leaf_tight k first 1 (whole sides) i h (whole_length sides) f))
