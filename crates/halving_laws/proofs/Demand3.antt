-- Demand 3, in both editions and for every first axis: the splits of a call that is not refused are a tree of fair cuts, and every such tree is balanced.
use Prim.Native.Nat.{ℕ, ◌^◌, ◌<◌}
use native.Mathlib.Omega.{arith}
use mathlib.Core.List.{List}
use lib.ListN.{get_or, length}
use Rattle.rules.specs.Grid.{cells, whole, all_weight}
use Rattle.rules.specs.Refusals.{top_weight, slice_by}
use Rattle.rules.specs.Halving.{edition_of, uncut, Halving, halving2, halving3, splits_by, ids_by, halve}
use Rattle.rules.specs.Demands.{Demand3Of, Demand3In2D, Demand3In3D}
use Rattle.halving_laws.specs.Fair.{FairTree, Structured}
use Rattle.halving_laws.specs.Accepted.{Accepted}
use Rattle.laws.proofs.Totals.{total_le}
use Rattle.halving_laws.proofs.Blocks.{whole_length, whole_below}
use Rattle.halving_laws.proofs.Editions.{edition_limits}
use Rattle.halving_laws.proofs.FairCut.{Limits}
use Rattle.halving_laws.proofs.Ids.{ids_below, parts_add_up}
use Rattle.halving_laws.proofs.Filled.{splits_follow, follows_fair, follows_structured}
use Rattle.halving_laws.proofs.Balance.{fair_tree_is_balanced}
use Rattle.halving_laws.proofs.Accepted.{accepted}

-- all cells weigh less than 2 ^ 45
pub weight_fits : {h : Halving} {ws splits ids : List ℕ} → Accepted h ws splits ids → all_weight h.sides ws < 2 ^ 45
unfolding all_weight
weight_fits {h} {ws} r =
    omega (arith, r.few, total_le (λ c. get_or ws c 0) top_weight (cells h.sides) (λ c l. r.light c (omega (arith, r.weights_long))))

module _ (h : Halving) (limits : (t : ℕ) → t < 2 ^ 45 → Limits (edition_of h.edition) t) where
  -- the rule's cuts are fair
  pub fair : {ws splits ids : List ℕ} → Accepted h ws splits ids → FairTree h.sides ws (splits_by h ws) h.depth h.first 1 (whole h.sides)
  fair {ws} r =
      follows_fair (edition_of h.edition) h.sides ws (splits_by h ws) h.depth h.first 1 (whole h.sides)
      (λ t l. limits t (omega (arith, weight_fits r))) r.first_fits (whole_length h.sides) (splits_follow (edition_of h.edition) h.sides ws h.first h.depth)

  -- each cut lies in its block, and a node is uncut just where its side is 0 or its parent is uncut
  pub structured : {ws splits ids : List ℕ} → Accepted h ws splits ids → Structured (splits_by h ws) (length h.sides) h.depth h.first 1 (whole h.sides)
  structured {ws} r =
      follows_structured (edition_of h.edition) h.sides ws (splits_by h ws) h.depth h.first 1 (whole h.sides)
      (whole_below uncut h.sides (λ a l. omega (arith, r.sides_fit a l))) (splits_follow (edition_of h.edition) h.sides ws h.first h.depth)

  pub demand_3 : Demand3Of h
  unfolding halve slice_by
  demand_3 ws splits ids e =
      let r = accepted h ws splits ids e in
      rw e (record {
        balanced = λ i l. fair_tree_is_balanced h.sides ws (splits_by h ws) h.first h.depth i r.first_fits (fair r) l;
        adds_up = parts_add_up h.sides ws (ids_by h ws) (2 ^ h.depth) (ids_below h.sides h.first h.depth (splits_by h ws));
      })

pub demand_3_in_2d : Demand3In2D
demand_3_in_2d h = demand_3 (halving2 h) (edition_limits h.edition)

pub demand_3_in_3d : Demand3In3D
demand_3_in_3d h = demand_3 (halving3 h) (edition_limits h.edition)
