-- A byte above blanks, quotes and hashes that parts nothing belongs to a field, and begins one where one may begin; a line's end there is one. Assumes
-- nothing.
use Rattle.std.proofs.Common.{◌≡◌, ℕ, ◌+◌, ◌<◌, zero, suc, ◌≤◌, Bool, true, false, List, get_or, length, drop, take_while, ltb, refl, sym, ap, ◌∙◌, arith}
use Rattle.std.specs.List.{prefix_len}
use Rattle.std.proofs.lemmas.List.{get_or-drop}
use Rattle.std.proofs.lemmas.List.Folds.{length-prefix_len}
use Rattle.std.proofs.lemmas.List.Sums.{prefix_len_passes}
use Rattle.std.specs.declared.ops.ControlFlow.TheVariants.{Continue, Break}
use borrow.Author.Tests.{eq-eqb, ne_eqb, ltb-true, ltb-false}
use Rattle.std.proofs.lemmas.Bool.Decides.{nat_tests}
use Rattle.separators.specs.Machines.{after}
use Rattle.separators.proofs.Machines.{reads_on}
use Rattle.fields.specs.Fields.{is_plain, bare_byte, bare_step, bare_end, bare_at, open_byte, field_step, field_end, field_at}
use Rattle.fields.specs.declared.Field.TheVariants as field
use Rattle.fields.specs.declared.Found.{Found}
use Rattle.fields.specs.declared.Found.TheVariants as found
use Rattle.fields.specs.declared.Met.TheVariants as met

module _ (separator b : ℕ) (plain : is_plain separator b ≡ true) where
  pub plain_goes_on : (end at next : ℕ) → bare_byte separator end b at next ≡ Continue next
  plain_goes_on end at next = grind (arith, nat_tests)

  pub plain_begins : (at next : ℕ) → open_byte separator b at next ≡ Break (found.Bare at)
  plain_begins at next = grind (arith, nat_tests)

-- the bytes from a place to before another are plain: a field that begins at the one goes on at the other
abbrev pub PlainTo : ℕ → List ℕ → ℕ → ℕ → Type 0
PlainTo separator t from to =
    (from ≤ to)
    × (from < to → is_plain separator (get_or t from 0) ≡ true)
    × (after (bare_step separator) (Continue to) (drop to t) to ≡ after (bare_step separator) (Continue from) (drop from t) from)

module _ (separator : ℕ) (t : List ℕ) where
  -- where the first byte says all
  found_at_once : (at : ℕ) (f : Found) → at < length t → Break f ≡ open_byte separator (get_or t at 0) at (at + 1)
      → field_end separator t (Break f) ≡ field_at separator t at
  found_at_once at f h e = ap (field_end separator t) (reads_on (field_step separator) met.Open (Break f) _ t at h e refl)

  pub plain_field : (at : ℕ) → at < length t → is_plain separator (get_or t at 0) ≡ true → bare_at separator t at ≡ field_at separator t at
  plain_field at h plain = found_at_once at (found.Bare at) h (sym (plain_begins separator (get_or t at 0) plain at (at + 1)))

  pub line_end_field : (at : ℕ) → at < length t → get_or t at 0 ≡ 10 → field.LineEnd (at + 1) ≡ field_at separator t at
  line_end_field at h e = found_at_once at (found.Field (field.LineEnd (at + 1))) h (simp (eq-eqb (get_or t at 0) 10 e))

  pub line_end_at_once : (at end : ℕ) → at ≤ end → end ≤ at → end < length t → get_or t end 0 ≡ 10 → field.LineEnd (end + 1) ≡ field_at separator t at
  line_end_at_once at end l m h e = let same : at ≡ end = omega arith in rw same (line_end_field end h e)

  -- plain bytes from where a field may begin, up to a byte that ends it
  pub plain_word : (at end next : ℕ) → at < end → end < length t → PlainTo separator t at end → Break (end, next) ≡ bare_byte separator end (get_or t end 0) end (end + 1)
      → field.Word at end next ≡ field_at separator t at
  plain_word at end next some h plain stop =
      ap (bare_end (length t) at) (reads_on (bare_step separator) end (Break (end, next)) _ t end h stop plain.2) ∙ plain_field at (omega arith) (plain.1 some)

  -- the first of plain bytes, where there is one more
  first_plain : (from to : ℕ) (later : Bool) → ltb from to ≡ later → from ≤ to → is_plain separator (get_or t to 0) ≡ true
      → (from < to → is_plain separator (get_or t from 0) ≡ true) → is_plain separator (get_or t from 0) ≡ true
  first_plain from to true e order last first = first (ltb-true from to e)
  first_plain from to false e order last first = let same : from ≡ to = omega (arith, ltb-false from to e) in rw same last

  pub plain_more : (from to : ℕ) → to < length t → is_plain separator (get_or t to 0) ≡ true → PlainTo separator t from to → PlainTo separator t from (to + 1)
  plain_more from to h last plain = (
    omega (arith, plain.0),
    λ some. first_plain from to (ltb from to) refl plain.0 last plain.1,
    reads_on (bare_step separator) to (Continue (to + 1)) _ t to h (sym (plain_goes_on separator (get_or t to 0) last to to (to + 1))) plain.2,
  )

  -- bytes each of which is plain
  pub plain_run : (at n : ℕ) → at + n ≤ length t → ((k : ℕ) → k < n → is_plain separator (get_or t (at + k) 0) ≡ true) → PlainTo separator t at (at + n)
  plain_run at zero h plain = let none : at + 0 ≡ at = omega arith in rw none (omega arith, λ some. absurd (omega arith), refl)
  plain_run at (suc n) h plain =
      let next : at + suc n ≡ at + n + 1 = omega arith in
      rw next (plain_more at (at + n) (omega arith) (plain n (omega arith)) (plain_run at n (omega arith) (λ k l. plain k (omega arith))))

  -- as many as are counted
  pub plain_counted : (at n : ℕ) → at + n < length t → n ≡ length (take_while (is_plain separator) (drop at t)) → PlainTo separator t at (at + n)
  plain_counted at n h counted =
      plain_run at n (omega arith) (λ k l.
      let few : k < prefix_len (is_plain separator) (drop at t) = omega (arith, length-prefix_len (is_plain separator) (drop at t)) in
      rw (← get_or-drop at t k 0) (prefix_len_passes (is_plain separator) (drop at t) k 0 few))

pub line_ends : (separator b end next : ℕ) → b ≡ 10 → Break (end, end) ≡ bare_byte separator end b end next
line_ends separator b end next e = simp (eq-eqb b 10 e)

pub separator_ends : (separator b end next : ℕ) → (b ≡ 10 → ⊥) → b ≡ separator → Break (end, next) ≡ bare_byte separator end b end next
separator_ends separator b end next other e = simp (ne_eqb b 10 other, eq-eqb b separator e)
