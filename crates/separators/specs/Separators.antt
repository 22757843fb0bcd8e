-- What parts the fields of a text: what its bytes show, step by step, up to the end of the first line that has a word. Assumes nothing.
use Rattle.std.specs.Prelude.{ℕ, Bool, true, false, ◌||◌, cond, List, eqb}
use Rattle.separators.specs.Bytes.{is_line_end, is_hash, is_quote, is_tab, is_space}
use Rattle.separators.specs.Machines.{after}
use Rattle.std.specs.declared.ops.ControlFlow.{ControlFlow}
use Rattle.std.specs.declared.ops.ControlFlow.TheVariants.{Continue, Break}
use Rattle.separators.specs.declared.Sought.{Sought}
use Rattle.separators.specs.declared.Sought.TheVariants.{Blank, Comment, Word, Gap, Quoted}

-- a comma, a semicolon or a tab
abbrev pub is_separator : ℕ → Bool
is_separator b = eqb b 44 || (eqb b 59 || is_tab b)

-- one byte more of a line that has a word, where no quote opens; at the line's end blanks part the fields, and 32 stands for them
abbrev pub word_byte : ℕ → ControlFlow ℕ Sought
word_byte b = cond (is_separator b) (Break b) (cond (is_line_end b) (Break 32) (cond (is_space b) (Continue Gap) (Continue Word)))

-- where a field may begin, or behind a closing quote: there a quote opens
abbrev pub open_byte : ℕ → ControlFlow ℕ Sought
open_byte b = cond (is_quote b) (Continue Quoted) (word_byte b)

-- of a line that has had nothing but blanks: a tab in front of a word parts an empty field from it
abbrev pub blank_byte : Bool → ℕ → ControlFlow ℕ Sought
blank_byte tabbed b =
    cond (is_line_end b) (Continue (Blank false))
    (cond (is_tab b) (Continue (Blank true))
    (cond (is_space b) (Continue (Blank tabbed))
    (cond (is_hash b) (Continue Comment) (cond tabbed (Break 9) (open_byte b)))))

-- behind a gap, a blank or a closing quote, where a # starts a comment; so of two quotes for one the second opens again what the first closed
abbrev pub gap_byte : ℕ → ControlFlow ℕ Sought
gap_byte b = cond (is_hash b) (Break 32) (open_byte b)

-- between quotes; of an empty line's comment
abbrev pub quoted_byte : ℕ → ControlFlow ℕ Sought
quoted_byte b = cond (is_quote b) (Continue Gap) (cond (is_line_end b) (Break 32) (Continue Quoted))

abbrev pub comment_byte : ℕ → ControlFlow ℕ Sought
comment_byte b = cond (is_line_end b) (Continue (Blank false)) (Continue Comment)

-- what has been met with one byte more, wherever it stands
abbrev pub sought_byte : Sought → ℕ → ControlFlow ℕ Sought
sought_byte (Blank tabbed) b = blank_byte tabbed b
sought_byte Comment b = comment_byte b
sought_byte Word b = word_byte b
sought_byte Gap b = gap_byte b
sought_byte Quoted b = quoted_byte b

abbrev pub sought_step : Sought → ℕ → ℕ → ControlFlow ℕ Sought
sought_step met b at = sought_byte met b

-- what parts the fields of a text that has been read
abbrev pub separator_end : ControlFlow ℕ Sought → ℕ
separator_end (Continue met) = 32
separator_end (Break separator) = separator

abbrev pub separator_of : List ℕ → ℕ
separator_of t = separator_end (after sought_step (Continue (Blank false)) t 0)
