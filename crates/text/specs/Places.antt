-- Where a byte of a text stands. Assumes nothing.
use Rattle.std.specs.Prelude.{ℕ, ◌+◌, not, List, take, reverse, count_by}
use Rattle.text.specs.Bytes.{is_line_end}
use Rattle.text.specs.Tokens.{run_of}
use Rattle.text.specs.declared.place.Place.{Place}

-- behind the bytes that a text begins with: lines and columns count from 1
abbrev pub place_behind : List ℕ → Place
place_behind t = record { line = count_by is_line_end t + 1; column = run_of (λ b. not (is_line_end b)) (reverse t) + 1 }

-- a place behind the text counts as its end
abbrev pub place_at : List ℕ → ℕ → Place
place_at t at = place_behind (take at t)
