-- Kinds of bytes. Assumes nothing.
use Rattle.std.specs.Prelude.{ℕ, Bool, ◌||◌, eqb}

-- a space, a comma, a tab or a carriage return
abbrev pub is_gap : ℕ → Bool
is_gap b = eqb b 32 || (eqb b 44 || (eqb b 9 || eqb b 13))

abbrev pub is_line_end : ℕ → Bool
is_line_end b = eqb b 10

abbrev pub is_hash : ℕ → Bool
is_hash b = eqb b 35
