-- Words and lines' ends of a text. Assumes nothing.
use Rattle.std.specs.Prelude.{ℕ, ◌+◌, Bool, not, ◌||◌, cond, List, get_or, length, drop, take_while, leb}
use Rattle.text.specs.Bytes.{is_gap, is_line_end, is_hash}
use Rattle.text.specs.declared.token.Token.{Token}
use Rattle.text.specs.declared.token.Token.TheVariants.{Word, Comment, LineEnd, End}

-- how many bytes from the first on pass a test
abbrev pub run_of : (ℕ → Bool) → List ℕ → ℕ
run_of p t = length (take_while p t)

-- where the run that goes on at a place ends
abbrev pub run_end : (ℕ → Bool) → List ℕ → ℕ → ℕ
run_end p t at = at + run_of p (drop at t)

-- what a word holds
abbrev pub is_letter : ℕ → Bool
is_letter b = not (is_gap b || (is_line_end b || is_hash b))

-- at i, the first place that is no gap
abbrev pub token_on : List ℕ → ℕ → Token
token_on t i =
    cond (leb (length t) i) End
    (cond (is_line_end (get_or t i 0)) (LineEnd (i + 1))
    (cond (is_hash (get_or t i 0)) (Comment (run_end (λ b. not (is_line_end b)) t i)) (Word i (run_end is_letter t i))))

abbrev pub token_at : List ℕ → ℕ → Token
token_at t at = token_on t (run_end is_gap t at)
