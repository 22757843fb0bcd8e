-- No second answer fits the contract of a function that other crates call. Assumes nothing.
use mathlib.Core.Path.{◌≡◌, sym, ◌∙◌}
use Prim.Native.Nat.{ℕ}
use mir.Syntax.{Dict}
use denote.RattleType.{RattleType}
use denote.Builtin.{u32}
use denote.Param.Laws.{Laws, IsCopy}
use Rattle.std.specs.Prelude.{Result, Ok, Err, MatchResult}
use Rattle.std.specs.declared.clone.Clone.{Ghosts as CloneGhosts}
use Rattle.std.specs.declared.convert.Into.{Ghosts}
use Rattle.rules.specs.Refusals.{number_of}
use Rattle.rules.specs.contracts.refusal.Refusal as refusal
use Rattle.laws.proofs.Only.{Only, both}
use Rattle.apart.proofs.apart.Kinds as apart-kinds
use Rattle.apart.proofs.apart.Reads as apart-reads
use Rattle.apart.proofs.refusal_of.Kinds as refusal-of-kinds
use Rattle.apart.proofs.refusal_of.Reads as refusal-of-reads

-- of any value
module _ (V : RattleType) (Vs : Laws V) (Vc : IsCopy V) (clone : CloneGhosts V.Denot) (d : Dict) where
  pub apart_only : Only (apart-kinds.ps V Vs Vc) (apart-kinds.r V Vs Vc) (apart-reads.Post V Vs Vc clone d)
  apart_only κs a y z e f p q = both (p.0 ∙ sym q.0) (p.1 ∙ sym q.1)

-- where the refusal has one number, and whatever the answer's value
module _ (V E : RattleType) (Vs : Laws V) (Es : Laws E) (into : Ghosts E.Denot ℕ) (v e i : Dict) where
  pub refusal_of_only : ((r : E.Denot) (m n : ℕ) → into.converts r m → into.converts r n → m ≡ n)
      → Only (refusal-of-kinds.ps V E Vs Es) (refusal-of-kinds.r V E Vs Es) (refusal-of-reads.Post V E Vs Es into v e i)
  refusal_of_only one κs a y z _ _ p q = go a.0 p q
    where
      go : (answer : Result V.Denot E.Denot) → MatchResult answer (λ _. y ≡ 0) (λ r. into.converts r y) → MatchResult answer (λ _. z ≡ 0) (λ r. into.converts r z) → y ≡ z
      go (Ok v) p q = p ∙ sym q
      go (Err r) p q = one r y z p q

-- so of a refusal, and of a number
module _ (V : RattleType) (Vs : Laws V) (v e i : Dict) where
  pub refusal_of_refusal_only : (Es : Laws refusal.the_row)
      → Only (refusal-of-kinds.ps V refusal.the_row Vs Es) (refusal-of-kinds.r V refusal.the_row Vs Es) (refusal-of-reads.Post V refusal.the_row Vs Es (record { converts = λ r n. n ≡ number_of r }) v e i)
  refusal_of_refusal_only Es = refusal_of_only V refusal.the_row Vs Es (record { converts = λ r n. n ≡ number_of r }) v e i (λ r m n p q. p ∙ sym q)

  pub refusal_of_number_only : (Es : Laws u32)
      → Only (refusal-of-kinds.ps V u32 Vs Es) (refusal-of-kinds.r V u32 Vs Es) (refusal-of-reads.Post V u32 Vs Es (record { converts = λ r n. n ≡ r }) v e i)
  refusal_of_number_only Es = refusal_of_only V u32 Vs Es (record { converts = λ r n. n ≡ r }) v e i (λ r m n p q. p ∙ sym q)
