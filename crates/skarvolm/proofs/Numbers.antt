-- The number of refusal of an answer is the number that it stands for. Assumes nothing.
use Prim.Native.Nat.{ℕ}
use mathlib.Core.Path.{◌≡◌}
use Rattle.std.specs.Prelude.{Result, Ok, Err, MatchResult}
use Rattle.rules.specs.Refusals.{number_of, number_in}
use Rattle.rules.specs.declared.refusal.Refusal.{Refusal}

pub stands_for : {A : Type 0} (answer : Result A Refusal) (n : ℕ) → MatchResult answer (λ _. n ≡ 0) (λ r. n ≡ number_of r) → n ≡ number_in answer
stands_for (Ok value) n p = p
stands_for (Err r) n p = p
