-- What a machine has met with one byte more, and what holds of it at a text's end. Assumes nothing.
use Rattle.std.proofs.Common.{◌≡◌, ℕ, zero, suc, ◌+◌, ◌-◌, ◌≤◌, ◌<◌, List, get_or, length, drop, refl, sym, ◌∙◌, arith}
use Rattle.std.proofs.lemmas.List.{drop_more, drop_all}
use Rattle.std.specs.declared.ops.ControlFlow.{ControlFlow}
use Rattle.std.specs.declared.ops.ControlFlow.TheVariants.{Continue, Break}
use Rattle.separators.specs.Machines.{after}

module _ {A B : Type 0} (step : A → ℕ → ℕ → ControlFlow B A) where
  pub one_more : (met : A) (t : List ℕ) (n start : ℕ) → n < length t
      → after step (Continue met) (drop n t) (start + n) ≡ after step (step met (get_or t n 0) (start + n)) (drop (n + 1) t) (start + (n + 1))
  one_more met t n start h = let e : start + (n + 1) ≡ start + n + 1 = omega arith in rw (drop_more t n 0 h, e) refl

  pub goes_on : (met : A) (t : List ℕ) (at : ℕ) → at < length t → after step (Continue met) (drop at t) at ≡ after step (step met (get_or t at 0) at) (drop (at + 1) t) (at + 1)
  goes_on met t at h = rw (drop_more t at 0 h) refl

  -- so what has been met at the end stays the same
  pub reads_on : (met : A) (next end : ControlFlow B A) (t : List ℕ) (at : ℕ) → at < length t → next ≡ step met (get_or t at 0) at
      → after step (Continue met) (drop at t) at ≡ end → after step next (drop (at + 1) t) (at + 1) ≡ end
  reads_on met next end t at h e same = rw e (sym (goes_on met t at h) ∙ same)

  -- what each step keeps, and every byte more of a text where it broke off, holds at the text's end
  module _ (t : List ℕ) (P : ℕ → ControlFlow B A → Type 0) (longer : (i : ℕ) (x : B) → P i (Break x) → P (i + 1) (Break x))
      (kept : (i : ℕ) (met : A) → P i (Continue met) → P (i + 1) (step met (get_or t i 0) i)) where
    holds : (n : ℕ) (r : ControlFlow B A) (at : ℕ) → at + n ≡ length t → P at r → P (length t) (after step r (drop at t) at)
    holds zero (Break x) at e p = let same : at ≡ length t = omega arith in rw same at p
    holds zero (Continue met) at e p =
        let same : at ≡ length t = omega arith in
        let none : length t ≤ at = omega arith in
        rw (drop_all at t none) (rw same at p)
    holds (suc n) (Break x) at e p = holds n (Break x) (at + 1) (omega arith) (longer at x p)
    holds (suc n) (Continue met) at e p =
        let h : at < length t = omega arith in
        rw (drop_more t at 0 h) (holds n (step met (get_or t at 0) at) (at + 1) (omega arith) (kept at met p))

    pub holds_at_end : (r : ControlFlow B A) (at : ℕ) → at ≤ length t → P at r → P (length t) (after step r (drop at t) at)
    holds_at_end r at l p = holds (length t - at) r at (omega arith) p
