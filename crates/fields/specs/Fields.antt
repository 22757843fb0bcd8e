-- The fields of a text's lines: what stands where a field may begin, step by step. A step takes a byte, its place and that behind it. Assumes nothing.
use Rattle.std.specs.Prelude.{ℕ, ◌+◌, Bool, not, ◌&&◌, ◌||◌, cond, List, length, drop, eqb, ltb}
use Rattle.std.specs.declared.ops.ControlFlow.{ControlFlow}
use Rattle.std.specs.declared.ops.ControlFlow.TheVariants.{Continue, Break}
use Rattle.separators.specs.Bytes.{is_line_end, is_hash, is_quote, is_tab, is_space}
use Rattle.separators.specs.Machines.{after}
use Rattle.fields.specs.declared.Field.{Field}
use Rattle.fields.specs.declared.Field.TheVariants as field
use Rattle.fields.specs.declared.Quotes.{Quotes}
use Rattle.fields.specs.declared.Met.{Met}
use Rattle.fields.specs.declared.Met.TheVariants as met
use Rattle.fields.specs.declared.Found.{Found}
use Rattle.fields.specs.declared.Found.TheVariants as found

-- a space, a carriage return, or a tab that parts nothing
abbrev pub is_blank : ℕ → ℕ → Bool
is_blank separator b = is_space b || (is_tab b && not (is_tab separator))

-- the separator; where it is the space, any blank
abbrev pub parts : ℕ → ℕ → Bool
parts separator b = eqb b separator || (eqb separator 32 && is_blank separator b)

-- above blanks, quotes and hashes, and no separator
abbrev pub is_plain : ℕ → ℕ → Bool
is_plain separator b = ltb 35 b && not (eqb b separator)

-- one byte more of a field without quotes: it goes on to a byte that parts, a line's end, or a # behind a blank; blanks at its end do not belong to it
abbrev pub bare_byte : ℕ → ℕ → ℕ → ℕ → ℕ → ControlFlow (ℕ × ℕ) ℕ
bare_byte separator end b at next =
    cond (is_line_end b) (Break (end, at))
    (cond (parts separator b) (Break (end, next))
    (cond (is_blank separator b) (Continue end)
    (cond (is_hash b && ltb end at) (Break (end, at)) (Continue next))))

abbrev pub bare_step : ℕ → ℕ → ℕ → ℕ → ControlFlow (ℕ × ℕ) ℕ
bare_step separator end b at = bare_byte separator end b at (at + 1)

-- the field of a start, and what has been met of it at the end of a text of n bytes
abbrev pub bare_end : ℕ → ℕ → ControlFlow (ℕ × ℕ) ℕ → Field
bare_end n start (Continue end) = field.Word start end n
bare_end n start (Break stop) = field.Word start stop.0 stop.1

abbrev pub bare_at : ℕ → List ℕ → ℕ → Field
bare_at separator t start = bare_end (length t) start (after (bare_step separator) (Continue start) (drop start t) start)

-- one byte more where a field may begin; a separator here has an empty field before it
abbrev pub open_byte : ℕ → ℕ → ℕ → ℕ → ControlFlow Found Met
open_byte separator b at next =
    cond (is_line_end b) (Break (found.Field (field.LineEnd next)))
    (cond (is_blank separator b) (Continue met.Open)
    (cond (is_hash b) (Continue met.Comment)
    (cond (eqb b separator) (Break (found.Field (field.Word at at next)))
    (cond (is_quote b) (Continue (met.Quoted at next)) (Break (found.Bare at))))))

abbrev pub comment_byte : ℕ → ℕ → ControlFlow Found Met
comment_byte b next = cond (is_line_end b) (Break (found.Field (field.Comment next))) (Continue met.Comment)

-- between quotes; where none closes them on the line, they are bytes as any other
abbrev pub quoted_byte : ℕ → ℕ → ℕ → ℕ → ControlFlow Found Met
quoted_byte start first b at =
    cond (is_quote b) (Continue (met.Closed (record { start = start; first = first; end = at })))
    (cond (is_line_end b) (Break (found.Bare start)) (Continue (met.Quoted start first)))

-- behind the closing quote, and behind a quote that closes or is the first of two
abbrev pub behind_byte : ℕ → Quotes → ℕ → ℕ → ℕ → ControlFlow Found Met
behind_byte separator q b at next =
    cond (is_line_end b) (Break (found.Field (field.Word q.first q.end at)))
    (cond (parts separator b) (Break (found.Field (field.Word q.first q.end next)))
    (cond (is_blank separator b) (Continue (met.Behind q))
    (cond (is_hash b) (Break (found.Field (field.Word q.first q.end at))) (Break (found.Bare q.start)))))

abbrev pub closed_byte : ℕ → Quotes → ℕ → ℕ → ℕ → ControlFlow Found Met
closed_byte separator q b at next = cond (is_quote b) (Continue (met.Quoted q.start q.first)) (behind_byte separator q b at next)

-- what has been met with one byte more
abbrev pub field_byte : ℕ → Met → ℕ → ℕ → ℕ → ControlFlow Found Met
field_byte separator met.Open b at next = open_byte separator b at next
field_byte separator met.Comment b at next = comment_byte b next
field_byte separator (met.Quoted start first) b at next = quoted_byte start first b at
field_byte separator (met.Closed q) b at next = closed_byte separator q b at next
field_byte separator (met.Behind q) b at next = behind_byte separator q b at next

abbrev pub field_step : ℕ → Met → ℕ → ℕ → ControlFlow Found Met
field_step separator met b at = field_byte separator met b at (at + 1)

-- the field that is found, and that of what has been met at the text's end
abbrev pub found_at : ℕ → List ℕ → Found → Field
found_at separator t (found.Bare start) = bare_at separator t start
found_at separator t (found.Field f) = f

abbrev pub unfinished : ℕ → List ℕ → Met → Field
unfinished separator t met.Open = field.End
unfinished separator t met.Comment = field.Comment (length t)
unfinished separator t (met.Quoted start first) = bare_at separator t start
unfinished separator t (met.Closed q) = field.Word q.first q.end (length t)
unfinished separator t (met.Behind q) = field.Word q.first q.end (length t)

abbrev pub field_end : ℕ → List ℕ → ControlFlow Found Met → Field
field_end separator t (Continue met) = unfinished separator t met
field_end separator t (Break found) = found_at separator t found

abbrev pub field_at : ℕ → List ℕ → ℕ → Field
field_at separator t at = field_end separator t (after (field_step separator) (Continue met.Open) (drop at t) at)
