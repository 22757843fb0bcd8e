-- A list by a rule, which antt computes and compares with the code's. Assumes nothing.
use Prim.Native.Nat.{ℕ, zero, suc, ◌+◌, ◌*◌, ◌<◌}
use mathlib.Core.Path.{◌≡◌, sym, ap, ◌∙◌, subst}
use mathlib.Core.List.{List, [], ◌∷◌}
use native.Mathlib.Omega.{arith}
use native.Mathlib.Nat.{add-zero, zero-add, add-suc, suc-add}
use lib.ListN.{length, get_or}
use lib.Seq.{ext_get_or}
use Rattle.rules.specs.Curve.{group_entry, plane}
use Rattle.curve_laws.specs.Ruled.{RuledQuarter, RuledState}

-- n entries by the rule f, from place i on
abbrev pub tabulate : ℕ → ℕ → (ℕ → ℕ) → List ℕ
tabulate zero i f = []
tabulate (suc n) i f = f i ∷ tabulate n (suc i) f

from : (n i : ℕ) (f : ℕ → ℕ) (k : ℕ) → k < n → get_or (tabulate n i f) k 0 ≡ f (i + k)
from zero i f k h = absurd (omega arith)
from (suc n) i f zero h = ap f (sym (add-zero i))
from (suc n) i f (suc k) h = from n (suc i) f k (omega arith) ∙ ap f (suc-add i k ∙ sym (add-suc i k))

pub rule_at : (n : ℕ) (f : ℕ → ℕ) (k : ℕ) → k < n → get_or (tabulate n 0 f) k 0 ≡ f k
rule_at n f k h = from n 0 f k h ∙ ap f (zero-add k)

-- a quarter of the encoder's table
pub quarter_keeps_the_rule : (n : ℕ) → RuledQuarter n (tabulate 1024 0 (λ z. group_entry plane 6 (1024 * n + z)))
quarter_keeps_the_rule n = record { at = λ z h. rule_at 1024 (λ j. group_entry plane 6 (1024 * n + j)) z h }

-- four quarters make a state
pub quarters_make_a_state : (s : ℕ) (a b c d : List ℕ) → RuledQuarter (4 * s + 0) a → RuledQuarter (4 * s + 1) b → RuledQuarter (4 * s + 2) c → RuledQuarter (4 * s + 3) d
    → RuledState s (a ∷ b ∷ c ∷ d ∷ [])
quarters_make_a_state s a b c d ha hb hc hd = record { at = at } where
  at : (q : ℕ) → q < 4 → RuledQuarter (4 * s + q) (get_or (a ∷ b ∷ c ∷ d ∷ []) q [])
  at zero h = ha
  at (suc zero) h = hb
  at (suc (suc zero)) h = hc
  at (suc (suc (suc zero))) h = hd
  at (suc (suc (suc (suc q)))) h = absurd (omega arith)

-- no second list keeps the rule of a quarter, and none that of a state
one_quarter : (n : ℕ) (a b : List ℕ) → length a ≡ 1024 → length b ≡ 1024 → RuledQuarter n a → RuledQuarter n b → a ≡ b
one_quarter n a b l m p q =
    ext_get_or 0 a b (l ∙ sym m) (λ z h. let g : z < 1024 = subst (λ (k : ℕ). z < k) l h in p.at z g ∙ sym (q.at z g))

-- an array of arrays stands for a list of lists, whose lengths are those of the array's type
pub record Quarters (quarters : List (List ℕ)) : Type 0 where
  pub count : length quarters ≡ 4
  pub each : (q : ℕ) → q < 4 → length (get_or quarters q []) ≡ 1024

pub one_state : (s : ℕ) (a b : List (List ℕ)) → Quarters a → Quarters b → RuledState s a → RuledState s b → a ≡ b
one_state s a b l m p q =
    ext_get_or [] a b (l.count ∙ sym m.count) (λ i h.
    let g : i < 4 = subst (λ (k : ℕ). i < k) l.count h in
    one_quarter (4 * s + i) (get_or a i []) (get_or b i []) (l.each i g) (m.each i g) (p.at i g) (q.at i g))
