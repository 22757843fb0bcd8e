-- What a tree that knows its parts says of them: the id at its root is that of the first of the lightest. Assumes nothing.
use Prim.Native.Nat.{ℕ, zero, suc, ◌+◌, ◌*◌, ◌^◌, ◌≤◌, ◌<◌}
use native.Mathlib.Omega.{arith}
use mathlib.Core.Path.{◌≡◌, sym, ◌∙◌}
use mathlib.Core.List.{List}
use lib.Dec.{eqb}
use lib.Pow.{pow_pos}
use borrow.Author.Tests.{ne_eqb}
use Rattle.rules.specs.Sums.{pick}
use Rattle.lightest.specs.Tree.{part_at, Lightest, id_at, root, Knows, Knew}
use Rattle.lightest.proofs.Nodes.{id_inner}

at_root : (depth : ℕ) {parts tree : List ℕ} → Knows (2 ^ depth) parts tree → id_at (2 ^ depth) tree 1 ≡ root tree
unfolding id_at pick
at_root zero k = sym (k.frame.unused 1 (λ p. p))
at_root (suc depth) {tree = tree} k = id_inner {leaves = 2 ^ suc depth} tree 1 (omega (arith, pow_pos depth))

module _ (depth : ℕ) {parts tree : List ℕ} (k : Knows (2 ^ depth) parts tree) where
  root_is : Lightest parts (2 ^ depth) (1 * 2 ^ depth) ((1 + 1) * 2 ^ depth) (root tree)
  root_is = rw (← at_root depth k) (k.nodes depth 1 (record { low = omega arith; high = omega arith }))

  pub root_below : root tree < 2 ^ depth
  root_below = omega (arith, root_is.high)

  pub root_least : (i : ℕ) → i < 2 ^ depth → part_at parts (root tree) ≤ part_at parts i
  root_least i l = root_is.least i (omega arith) (omega arith)

  pub root_first : (i : ℕ) → i < root tree → part_at parts (root tree) < part_at parts i
  root_first i l = root_is.first i (omega arith) l

-- an amount more on one part
pub raised_one : {leaves : ℕ} {before parts tree : List ℕ} → Knows leaves before tree → (id amount : ℕ) → id < leaves
    → ((i : ℕ) → i < leaves → part_at parts i ≡ part_at before i + pick (eqb id i) amount 0) → Knew leaves id parts tree
unfolding pick
raised_one {before = before} k id amount l f =
    record {
      before = before;
      knows = k;
      raised = record { others = λ i m d. f i m ∙ rw (ne_eqb id i (λ e. d (sym e))) (omega arith); higher = omega (arith, f id l) };
    }
