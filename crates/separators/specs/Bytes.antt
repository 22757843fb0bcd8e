-- Kinds of bytes. Assumes nothing.
use Rattle.std.specs.Prelude.{ℕ, Bool, ◌||◌, eqb}

abbrev pub is_line_end : ℕ → Bool
is_line_end b = eqb b 10

abbrev pub is_hash : ℕ → Bool
is_hash b = eqb b 35

abbrev pub is_quote : ℕ → Bool
is_quote b = eqb b 34

abbrev pub is_tab : ℕ → Bool
is_tab b = eqb b 9

-- a space or a carriage return
abbrev pub is_space : ℕ → Bool
is_space b = eqb b 32 || eqb b 13
