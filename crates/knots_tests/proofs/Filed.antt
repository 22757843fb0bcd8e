-- What a call on points files: after a refusal its number, the index slice as it was, else 0 and what is written. Assumes nothing.
use Prim.Native.Nat.{ℕ}
use native.Mathlib.Omega.{arith}
use mathlib.Core.Path.{◌≡◌, sym, ap, ◌∙◌}
use mathlib.Core.List.{List}
use Rattle.std.specs.Prelude.{Ok, Err}
use Rattle.rules.specs.Refusals.{Test, first_of, answer_by, number_of, number_in, slice_by}
use Rattle.rules.specs.Knots.{filed_by}
use Rattle.rules.specs.declared.refusal.Refusal.{Refusal}
use Rattle.laws.proofs.Exactly.{untouched}
use Rattle.laws.proofs.Numbers.{number_above_0}
use Rattle.laws.proofs.Readings.{number_of_answer, answered_by}

module _ (ts : List Test) (written before : List ℕ) where
  pub files_refusal : (r : Refusal) → answer_by {A = Unit {0}} ts tt ≡ Err r
      → record { value : number_of r ≡ (filed_by (first_of ts) written before).number; indices_after : before ≡ (filed_by (first_of ts) written before).indices }
  files_refusal r e =
      let is : number_of r ≡ first_of ts = sym (ap number_in e) ∙ number_of_answer {A = Unit {0}} ts tt in
      let l = number_above_0 r in
      record { value = is; indices_after = sym (untouched (first_of ts) written before (omega (arith, is))) }

  pub files_answer : (after : List ℕ) → answer_by {A = Unit {0}} ts tt ≡ Ok tt → after ≡ written
      → record { value : 0 ≡ (filed_by (first_of ts) written before).number; indices_after : after ≡ (filed_by (first_of ts) written before).indices }
  unfolding slice_by
  files_answer after e w = let z = (answered_by {A = Unit {0}} ts tt tt e).0 in record { value = sym z; indices_after = rw (z, w) }
