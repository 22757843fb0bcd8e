-- One tree knows the parts: at each node is the first of the lightest, of which there is one, and elsewhere 0. Assumes nothing.
use Prim.Native.Nat.{ℕ, ◌^◌, ◌≤◌, ◌<◌}
use native.Mathlib.Omega.{arith}
use mathlib.Core.Logic.{⊎_elim}
use mathlib.Core.Path.{◌≡◌, sym, ◌∙◌}
use mathlib.Core.List.{List}
use lib.ListN.{get_or}
use lib.Seq.{ext_get_or}
use Rattle.lightest.specs.Tree.{Knows}
use Rattle.lightest.proofs.First.{lt_or_le, same_or_other, one_first}
use Rattle.lightest.proofs.Levels.{height}
use Rattle.lightest.proofs.Nodes.{id_inner}

pub knows_only : (depth : ℕ) {parts tree other : List ℕ} → Knows (2 ^ depth) parts tree → Knows (2 ^ depth) parts other → tree ≡ other
knows_only depth {parts} {tree} {other} p q = ext_get_or 0 tree other (p.frame.long ∙ sym q.frame.long) (λ n _. ⊎_elim (node n) (unused n) (lt_or_le n (2 ^ depth)))
  where
    nowhere : (n : ℕ) → (0 < n → 2 ^ depth ≤ n) → get_or tree n 0 ≡ get_or other n 0
    nowhere n h = p.frame.unused n h ∙ sym (q.frame.unused n h)

    unused : (n : ℕ) → 2 ^ depth ≤ n → get_or tree n 0 ≡ get_or other n 0
    unused n l = nowhere n (λ _. l)

    node : (n : ℕ) → n < 2 ^ depth → get_or tree n 0 ≡ get_or other n 0
    node n l = ⊎_elim (λ (e : n ≡ 0). nowhere n (λ m. absurd (omega arith))) inner (same_or_other n 0)
      where
        inner : (n ≡ 0 → ⊥) → get_or tree n 0 ≡ get_or other n 0
        inner d =
            let (h, s) = height depth n (omega arith) (omega arith) in
            sym (id_inner {leaves = 2 ^ depth} tree n l) ∙ one_first (p.nodes h n s) (q.nodes h n s) ∙ id_inner {leaves = 2 ^ depth} other n l
