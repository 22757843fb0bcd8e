-- Every token lies in its text and goes on from where it was looked for. Assumes nothing.
use Rattle.std.proofs.Common.{ℕ, ◌+◌, ◌≤◌, ◌<◌, ◌≡◌, refl, Bool, true, false, not, cond, List, get_or, length, drop, leb, arith, length-drop}
use Rattle.std.proofs.lemmas.List.{get_or-drop}
use Rattle.std.proofs.lemmas.List.Sums.{prefix_len-le-length, prefix_len-drop_yes, prefix_len_stops}
use Rattle.std.specs.List.{prefix_len}
use Rattle.std.proofs.lemmas.List.Folds.{length-prefix_len}
use borrow.Author.Tests.{leb-false}
use Rattle.text.specs.Bytes.{is_gap, is_line_end, is_hash}
use Rattle.text.specs.Tokens.{run_end, is_letter, token_at}
use Rattle.text.specs.declared.token.Token.{Token}
use Rattle.text.specs.declared.token.Token.TheVariants.{Word, Comment, LineEnd, End}

-- from a place on, in a text of n bytes
abbrev pub GoesOn : ℕ → ℕ → Token → Type 0
GoesOn at n (Word start end) = (at ≤ start) × (start < end) × (end ≤ n)
GoesOn at n (Comment end) = (at < end) × (end ≤ n)
GoesOn at n (LineEnd next) = (at < next) × (next ≤ n)
GoesOn at n End = Unit {0}

within : (p : ℕ → Bool) (t : List ℕ) (at : ℕ) → at ≤ length t → run_end p t at ≤ length t
within p t at l = omega (arith, length-prefix_len p (drop at t), prefix_len-le-length p (drop at t), length-drop at t)

-- a run passes its first byte
passes_first : (p : ℕ → Bool) (t : List ℕ) (at : ℕ) → at < length t → p (get_or t at 0) ≡ true → at < run_end p t at
passes_first p t at l e = omega (arith, length-prefix_len p (drop at t), prefix_len-drop_yes p t at 0 l e)

-- and ends in the text at a byte that is none of it
stops : (p : ℕ → Bool) (t : List ℕ) (at : ℕ) → run_end p t at < length t → p (get_or t (run_end p t at) 0) ≡ false
stops p t at l =
    let short : prefix_len p (drop at t) < length (drop at t) = omega (arith, length-prefix_len p (drop at t), length-drop at t) in
    rw (length-prefix_len p (drop at t), ← get_or-drop at t (prefix_len p (drop at t)) 0) (prefix_len_stops p (drop at t) 0 short)

cases : (b : Bool) (at n : ℕ) (x y : Token) → (b ≡ true → GoesOn at n x) → (b ≡ false → GoesOn at n y) → GoesOn at n (cond b x y)
cases true at n x y f g = f refl
cases false at n x y f g = g refl

word_starts : (b : ℕ) → is_gap b ≡ false → is_line_end b ≡ false → is_hash b ≡ false → is_letter b ≡ true
word_starts b p q r = rw (p, q, r) refl

comment_starts : (b : ℕ) → is_line_end b ≡ false → not (is_line_end b) ≡ true
comment_starts b p = rw p refl

pub token_goes_on : (t : List ℕ) (at : ℕ) → GoesOn at (length t) (token_at t at)
token_goes_on t at =
    let n : ℕ = length t in
    let i : ℕ = run_end is_gap t at in
    cases (leb n i) at n End _ (λ _. tt)
    (λ short. let l : i < n = leb-false n i short in
    cases (is_line_end (get_or t i 0)) at n (LineEnd (i + 1)) _ (λ _. (omega arith, omega arith))
    (λ line. cases (is_hash (get_or t i 0)) at n (Comment (run_end (λ b. not (is_line_end b)) t i)) _
    (λ _. let some = passes_first (λ b. not (is_line_end b)) t i l (comment_starts (get_or t i 0) line) in
    (omega arith, within (λ b. not (is_line_end b)) t i (omega arith)))
    (λ hash. let some = passes_first is_letter t i l (word_starts (get_or t i 0) (stops is_gap t at l) line hash) in
    (omega arith, some, within is_letter t i (omega arith)))))
