-- The way up from the leaf of a raised part. Below the node that is reached the tree knows the parts as they are, and from there up as they
-- were: where the raised part was not the lightest, it is so nowhere above, and nothing changes. Assumes nothing.
use Prim.Native.Nat.{ℕ, zero, suc, ◌+◌, ◌*◌, ◌/◌, ◌^◌, ◌≤◌, ◌<◌}
use native.Mathlib.Omega.{arith}
use native.Mathlib.Nat.{eq-or-lt_of_le, mul-le-mul_right}
use mathlib.Core.Logic.{⊎_elim}
use mathlib.Core.Path.{◌≡◌, sym, ◌∙◌}
use mathlib.Core.List.{List}
use lib.ListN.{get_or, set}
use lib.Pow.{pow_mono}
use Rattle.lightest.specs.Tree.{Lightest, id_at, Stands, Holds, Framed, Knows, Raised, Knew, worked_out, Ready}
use Rattle.lightest.proofs.First.{lt_or_le, same_or_other, within, one_first, stays}
use Rattle.lightest.proofs.Levels.{Below, left_below, right_below, inner, not-zero, one_height, up, one_above, nested, stands_above}
use Rattle.lightest.proofs.Nodes.{id_inner, leaf_holds, holds_other, frame_other, holds_here, ready}

-- the node that is next stands above those of `under` levels
pub record Midway (leaves id : ℕ) (parts tree : List ℕ) (node : ℕ) : Type 0 where
  pub inside : id < leaves
  pub before : List ℕ
  pub raised : Raised leaves id before parts
  pub frame : Framed leaves tree
  pub under : ℕ
  pub above : Below (leaves + id) (suc under) node
  pub done : (h n : ℕ) → h ≤ under → Stands leaves h n → Holds leaves parts tree h n
  pub left : (h n : ℕ) → under < h → Stands leaves h n → Holds leaves before tree h n

pub begin : {leaves id : ℕ} {parts tree : List ℕ} → Knew leaves id parts tree → id < leaves → Midway leaves id parts tree ((leaves + id) / 2)
begin {leaves} {id} {parts} {tree} k l =
    record {
      inside = l;
      before = k.before;
      raised = k.raised;
      frame = k.knows.frame;
      under = 0;
      above = up (record { low = omega arith; high = omega arith });
      done = at_leaf;
      left = λ h n _ s. k.knows.nodes h n s;
    }
  where
    at_leaf : (h n : ℕ) → h ≤ 0 → Stands leaves h n → Holds leaves parts tree h n
    at_leaf zero n _ s = leaf_holds tree 0 n (omega (arith, s.low)) s
    at_leaf (suc h) n m s = absurd (omega arith)

module _ {leaves id node : ℕ} {parts tree : List ℕ} (m : Midway leaves id parts tree node) where
  -- the tree knows all parts if it does so from here up
  known : ((h n : ℕ) → m.under < h → Stands leaves h n → Holds leaves parts tree h n) → Knows leaves parts tree
  known higher = record { frame = m.frame; nodes = λ h n s. ⊎_elim (λ l. higher h n l s) (λ l. m.done h n l s) (lt_or_le m.under h) }

  -- past the root there is nothing
  pub past_the_root : node ≡ 0 → Knows leaves parts tree
  past_the_root z = known (λ h n l s. absurd (too_high h n l s))
    where
      top : Below (leaves + id) (suc m.under) 0
      top = rw z at m.above

      too_high : (h n : ℕ) → m.under < h → Stands leaves h n → ⊥
      too_high h n l s = omega (arith, s.high, top.high, pow_mono l, mul-le-mul_right (2 ^ h) (not-zero s (omega (arith, m.inside))))

  -- the node that is next
  module _ (p : 0 < node) (depth : ℕ) (e : leaves ≡ 2 ^ depth) where
    here : Stands leaves (suc m.under) node
    here = stands_above depth e m.above p (omega arith) (omega (arith, m.inside))

    pub here_inside : node < leaves
    here_inside = inner here

    -- where the raised part is the lightest below a higher one, it is so there
    lightest_here : (h n : ℕ) → m.under < h → Stands leaves h n → id_at leaves tree n ≡ id → id_at leaves tree node ≡ id
    lightest_here h n l s q =
        let it : Lightest m.before leaves (n * 2 ^ h) ((n + 1) * 2 ^ h) id = rw q at (m.left h n l s) in
        let (low, high) = nested m.above (record { low = it.low; high = it.high }) l in
        one_first (m.left (suc m.under) node (omega arith) here) (within it low high m.above.low m.above.high)

    -- so where it is not, nothing changes
    pub stop : (get_or tree node 0 ≡ id → ⊥) → Knows leaves parts tree
    stop other =
        let inside = id_inner tree node here_inside in
        known (λ h n l s. stays m.raised s.high (m.left h n l s) (λ q. other (sym inside ∙ lightest_here h n l s q)))

    -- else it is worked out
    module _ (few : leaves ≤ 4096) where
      left_holds : Holds leaves parts tree m.under (2 * node)
      left_holds = m.done m.under (2 * node) (omega arith) (left_below here)

      right_holds : Holds leaves parts tree m.under (2 * node + 1)
      right_holds = m.done m.under (2 * node + 1) (omega arith) (right_below here)

      pub can_work : Ready leaves tree node
      can_work = ready tree few m.frame.long here left_holds right_holds

      -- at its level, the other nodes are not above the raised part
      elsewhere : (n : ℕ) → Stands leaves (suc m.under) n → (n ≡ node → ⊥) → Holds leaves parts tree (suc m.under) n
      elsewhere n s d =
          let was = m.left (suc m.under) n (omega arith) s in
          stays m.raised s.high was (λ q. let it = rw q at was in d (one_above (record { low = it.low; high = it.high }) m.above))

      level : (n : ℕ) → Stands leaves (suc m.under) n → Holds leaves parts (set tree node (worked_out leaves parts tree node)) (suc m.under) n
      level n s =
          ⊎_elim (λ q. rw q (holds_here tree few m.frame.long here left_holds right_holds))
          (λ d. holds_other tree node (worked_out leaves parts tree node) (suc m.under) d (elsewhere n s d))
          (same_or_other n node)

      pub step : Midway leaves id parts (set tree node (worked_out leaves parts tree node)) (node / 2)
      step =
          let new = worked_out leaves parts tree node in
          record {
            inside = m.inside;
            before = m.before;
            raised = m.raised;
            frame = frame_other tree node new p here_inside m.frame;
            under = suc m.under;
            above = up m.above;
            done = λ h n l s.
                ⊎_elim (λ q. rw q (level n (rw q at s)))
                (λ k. holds_other tree node new h (λ q. one_height (rw q at s) here k) (m.done h n (omega arith) s))
                (eq-or-lt_of_le l);
            left = λ h n l s. holds_other tree node new h (λ q. one_height here (rw q at s) l) (m.left h n (omega arith) s);
          }
