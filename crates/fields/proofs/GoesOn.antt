-- Every field lies in its text and goes on from where it was looked for: so does what has been met of it, after every byte. Assumes nothing.
use Rattle.std.proofs.Common.{◌≡◌, ℕ, ◌+◌, ◌≤◌, ◌<◌, Bool, true, false, cond, ◌&&◌, List, get_or, length, drop, refl, sym, subst, ◌∙◌, eqb, leb, ltb, arith}
use Rattle.std.proofs.lemmas.List.{drop_more, drop_all}
use Rattle.std.specs.declared.ops.ControlFlow.{ControlFlow}
use Rattle.std.specs.declared.ops.ControlFlow.TheVariants.{Continue, Break}
use mathlib.Core.Bool.{true≢false}
use borrow.Author.Tests.{ltb-true, leb-true, leb-false}
use Rattle.separators.specs.Bytes.{is_line_end, is_hash, is_quote}
use Rattle.separators.specs.Machines.{after}
use Rattle.separators.proofs.Machines.{holds_at_end}
use Rattle.fields.specs.Fields.{is_blank, parts, bare_step, bare_end, bare_at, open_byte, behind_byte, field_step, field_end, field_at}
use Rattle.fields.specs.declared.Field.{Field}
use Rattle.fields.specs.declared.Field.TheVariants as field
use Rattle.fields.specs.declared.Quotes.{Quotes}
use Rattle.fields.specs.declared.Found.{Found}
use Rattle.fields.specs.declared.Found.TheVariants as found
use Rattle.fields.specs.declared.Met.{Met}
use Rattle.fields.specs.declared.Met.TheVariants as met

-- from a place on, in a text of n bytes
abbrev pub GoesOn : ℕ → ℕ → Field → Type 0
GoesOn at n (field.Word start end next) = (at ≤ start) × (start ≤ end) × (end ≤ next) × (at < next) × (next ≤ n)
GoesOn at n (field.Comment next) = (at < next) × (next ≤ n)
GoesOn at n (field.LineEnd next) = (at < next) × (next ≤ n)
GoesOn at n field.End = Unit {0}

-- a longer text has it too
longer : (at n : ℕ) (f : Field) → GoesOn at n f → GoesOn at (n + 1) f
longer at n (field.Word start end next) h = (h.0, h.1, h.2, h.3, omega arith)
longer at n (field.Comment next) h = (h.0, omega arith)
longer at n (field.LineEnd next) h = (h.0, omega arith)
longer at n field.End h = tt

cases : {A : Type 0} (P : A → Type 0) (b : Bool) (x y : A) → (b ≡ true → P x) → (b ≡ false → P y) → P (cond b x y)
cases P true x y f g = f refl
cases P false x y f g = g refl

-- a field without quotes that begins at a place, before byte i
abbrev BareFits : ℕ → ℕ → ControlFlow (ℕ × ℕ) ℕ → Type 0
BareFits start i (Continue end) = (start ≤ end) × (end ≤ i)
BareFits start i (Break stop) = (start ≤ stop.0) × (stop.0 ≤ stop.1) × (start < stop.1) × (stop.1 ≤ i)

-- a # behind a blank stands behind the field's end
behind_end : (p : Bool) (end at : ℕ) → (p && ltb end at) ≡ true → end < at
behind_end true end at e = ltb-true end at e
behind_end false end at e = absurd (true≢false (sym e))

module _ (separator : ℕ) (t : List ℕ) where
  bare_byte_fits : (start end i b : ℕ) → (is_line_end b ≡ true → start < i) → start ≤ end → end ≤ i → BareFits start (i + 1) (bare_step separator end b i)
  bare_byte_fits start end i b line p q =
      cases (BareFits start (i + 1)) (is_line_end b) (Break (end, i)) _ (λ e. let l = line e in (p, q, l, omega arith))
      (λ _. cases (BareFits start (i + 1)) (parts separator b) (Break (end, i + 1)) _ (λ _. (p, omega arith, omega arith, omega arith))
      (λ _. cases (BareFits start (i + 1)) (is_blank separator b) (Continue end) _ (λ _. (p, omega arith))
      (λ _. cases (BareFits start (i + 1)) (is_hash b && ltb end i) (Break (end, i)) (Continue (i + 1))
      (λ e. let l = behind_end (is_hash b) end i e in (p, q, omega arith, omega arith)) (λ _. (omega arith, omega arith)))))

  bare_end_goes_on : (at start n : ℕ) (r : ControlFlow (ℕ × ℕ) ℕ) → at ≤ start → start < n → BareFits start n r → GoesOn at n (bare_end n start r)
  bare_end_goes_on at start n (Continue end) p l h = (p, h.0, h.1, omega arith, omega arith)
  bare_end_goes_on at start n (Break stop) p l h = (p, h.0, h.1, omega arith, h.3)

  -- its first byte does not end it
  bare_first_fits : (start : ℕ) → is_line_end (get_or t start 0) ≡ false → BareFits start (start + 1) (bare_step separator start (get_or t start 0) start)
  bare_first_fits start line = bare_byte_fits start start start (get_or t start 0) (λ e. absurd (true≢false (sym e ∙ line))) (omega arith) (omega arith)

  bare_goes_on : (at start : ℕ) → at ≤ start → start < length t → is_line_end (get_or t start 0) ≡ false → GoesOn at (length t) (bare_at separator t start)
  bare_goes_on at start p l line =
      let fits = holds_at_end (bare_step separator) t (λ i r. (start < i) × BareFits start i r) (λ i stop h. (omega arith, (h.1.0, h.1.1, h.1.2, omega arith)))
      (λ i end h. (omega arith, bare_byte_fits start end i (get_or t i 0) (λ _. h.0) h.1.0 h.1.1)) (bare_step separator start (get_or t start 0) start) (start + 1)
      (omega arith) (omega arith, bare_first_fits start line) in
      rw (drop_more t start 0 l) (bare_end_goes_on at start (length t) _ p l fits.1)

  -- what has been met before byte i, where a field was looked for from at on; no bare field begins at a line's end
  abbrev InQuotes : ℕ → ℕ → Quotes → Type 0
  InQuotes at i q = (at ≤ q.start) × (q.start < q.first) × (q.first ≤ q.end) × (q.end < i) × (is_line_end (get_or t q.start 0) ≡ false)

  abbrev Fits : ℕ → ℕ → ControlFlow Found Met → Type 0
  Fits at i (Continue met.Open) = Unit {0}
  Fits at i (Continue met.Comment) = at < i
  Fits at i (Continue (met.Quoted start first)) = (at ≤ start) × (start < first) × (first ≤ i) × (is_line_end (get_or t start 0) ≡ false)
  Fits at i (Continue (met.Closed q)) = InQuotes at i q
  Fits at i (Continue (met.Behind q)) = InQuotes at i q
  Fits at i (Break (found.Bare start)) = (at ≤ start) × (start < i) × (is_line_end (get_or t start 0) ≡ false)
  Fits at i (Break (found.Field f)) = GoesOn at i f

  still_fits : (at i : ℕ) (x : Found) → Fits at i (Break x) → Fits at (i + 1) (Break x)
  still_fits at i (found.Bare start) h = (h.0, omega arith, h.2)
  still_fits at i (found.Field f) h = longer at i f h

  open_byte_fits : (at i : ℕ) → at ≤ i → Fits at (i + 1) (open_byte separator (get_or t i 0) i (i + 1))
  open_byte_fits at i p =
      let b : ℕ = get_or t i 0 in
      cases (Fits at (i + 1)) (is_line_end b) (Break (found.Field (field.LineEnd (i + 1)))) _ (λ _. (omega arith, omega arith))
      (λ line. cases (Fits at (i + 1)) (is_blank separator b) (Continue met.Open) _ (λ _. tt)
      (λ _. cases (Fits at (i + 1)) (is_hash b) (Continue met.Comment) _ (λ _. omega arith)
      (λ _. cases (Fits at (i + 1)) (eqb b separator) (Break (found.Field (field.Word i i (i + 1)))) _ (λ _. (p, omega arith, omega arith, omega arith, omega arith))
      (λ _. cases (Fits at (i + 1)) (is_quote b) (Continue (met.Quoted i (i + 1))) (Break (found.Bare i)) (λ _. (p, omega arith, omega arith, line)) (λ _. (p, omega arith, line))))))

  behind_byte_fits : (at i : ℕ) (q : Quotes) → InQuotes at i q → Fits at (i + 1) (behind_byte separator q (get_or t i 0) i (i + 1))
  behind_byte_fits at i q h =
      let b : ℕ = get_or t i 0 in
      cases (Fits at (i + 1)) (is_line_end b) (Break (found.Field (field.Word q.first q.end i))) _ (λ _. (omega arith, omega arith, omega arith, omega arith, omega arith))
      (λ _. cases (Fits at (i + 1)) (parts separator b) (Break (found.Field (field.Word q.first q.end (i + 1)))) _ (λ _. (omega arith, omega arith, omega arith, omega arith, omega arith))
      (λ _. cases (Fits at (i + 1)) (is_blank separator b) (Continue (met.Behind q)) _ (λ _. (h.0, h.1, h.2, omega arith, h.4))
      (λ _. cases (Fits at (i + 1)) (is_hash b) (Break (found.Field (field.Word q.first q.end i))) (Break (found.Bare q.start)) (λ _. (omega arith, omega arith, omega arith, omega arith, omega arith))
      (λ _. (h.0, omega arith, h.4)))))

  step_fits : (at i : ℕ) (m : Met) → at ≤ i → Fits at i (Continue m) → Fits at (i + 1) (field_step separator m (get_or t i 0) i)
  step_fits at i met.Open p h = open_byte_fits at i p
  step_fits at i met.Comment p h =
      cases (Fits at (i + 1)) (is_line_end (get_or t i 0)) (Break (found.Field (field.Comment (i + 1)))) (Continue met.Comment) (λ _. (omega arith, omega arith)) (λ _. omega arith)
  step_fits at i (met.Quoted start first) p h =
      cases (Fits at (i + 1)) (is_quote (get_or t i 0)) (Continue (met.Closed (record { start = start; first = first; end = i }))) _ (λ _. (h.0, h.1, h.2, omega arith, h.3))
      (λ _. cases (Fits at (i + 1)) (is_line_end (get_or t i 0)) (Break (found.Bare start)) (Continue (met.Quoted start first)) (λ _. (h.0, omega arith, h.3)) (λ _. (h.0, h.1, omega arith, h.3)))
  step_fits at i (met.Closed q) p h =
      cases (Fits at (i + 1)) (is_quote (get_or t i 0)) (Continue (met.Quoted q.start q.first)) _ (λ _. (h.0, h.1, omega arith, h.4)) (λ _. behind_byte_fits at i q h)
  step_fits at i (met.Behind q) p h = behind_byte_fits at i q h

  end_goes_on : (at : ℕ) (r : ControlFlow Found Met) → at < length t → Fits at (length t) r → GoesOn at (length t) (field_end separator t r)
  end_goes_on at (Continue met.Open) l h = tt
  end_goes_on at (Continue met.Comment) l h = (l, omega arith)
  end_goes_on at (Continue (met.Quoted start first)) l h = bare_goes_on at start h.0 (omega arith) h.3
  end_goes_on at (Continue (met.Closed q)) l h = (omega arith, h.2, omega arith, l, omega arith)
  end_goes_on at (Continue (met.Behind q)) l h = (omega arith, h.2, omega arith, l, omega arith)
  end_goes_on at (Break (found.Bare start)) l h = bare_goes_on at start h.0 h.1 h.2
  end_goes_on at (Break (found.Field f)) l h = h

  -- behind the text's end there is no field
  none : (at : ℕ) → length t ≤ at → field_at separator t at ≡ field.End
  none at h = rw (drop_all at t h) refl

  within : (at : ℕ) → at < length t → GoesOn at (length t) (field_at separator t at)
  within at l =
      end_goes_on at (after (field_step separator) (Continue met.Open) (drop at t) at) l
      (holds_at_end (field_step separator) t (λ i r. (at ≤ i) × Fits at i r) (λ i x h. (omega arith, still_fits at i x h.1)) (λ i m h. (omega arith, step_fits at i m h.0 h.1))
      (Continue met.Open) at (omega arith) (omega arith, tt)).1

  pub field_goes_on : (at : ℕ) → GoesOn at (length t) (field_at separator t at)
  field_goes_on at = either (leb (length t) at) refl
    where
      either : (b : Bool) → leb (length t) at ≡ b → GoesOn at (length t) (field_at separator t at)
      either true e = rw (none at (leb-true (length t) at e)) tt
      either false e = within at (leb-false (length t) at e)

  -- so the next field begins behind where this one was looked for, and not behind the text
  pub word_goes_on : (at start end next : ℕ) → field.Word start end next ≡ field_at separator t at → (at < next) × (next ≤ length t)
  word_goes_on at start end next e = let h : GoesOn at (length t) (field.Word start end next) = subst (GoesOn at (length t)) (sym e) (field_goes_on at) in (h.3, h.4)
