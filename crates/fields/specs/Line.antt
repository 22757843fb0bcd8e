-- The fields of a line, one after the other. Assumes nothing.
use Rattle.std.specs.Prelude.{◌≡◌, ℕ, ◌-◌, ◌&&◌, cond, List, [], length, take, drop, leb, Option, Some, None}
use Rattle.fields.specs.Fields.{field_at}
use Rattle.fields.specs.declared.Field.{Field}
use Rattle.fields.specs.declared.Field.TheVariants.{Word, Comment, LineEnd, End}
use Rattle.fields.specs.declared.line.Span.{Span}
use Rattle.fields.specs.declared.line.Fields.{Fields}

-- the bytes of a text from a place to before another
abbrev pub bytes_of : List ℕ → Span → List ℕ
bytes_of t s = cond (leb s.start s.end && leb s.end (length t)) (take (s.end - s.start) (drop s.start t)) []

-- a field's bytes, none at a line's end
abbrev pub span_of : Field → Option Span
span_of (Word start end next) = Some (record { start = start; end = end })
span_of (Comment next) = None
span_of (LineEnd next) = None
span_of End = None

-- where the next field may begin; a line's end stays ahead
abbrev pub next_of : ℕ → Field → ℕ
next_of at (Word start end next) = next
next_of at (Comment next) = at
next_of at (LineEnd next) = at
next_of at End = at

abbrev pub GivesField : Fields → Option Span → Fields → Type 0
GivesField s r t =
    let f : Field = field_at s.separator s.text.now s.at in
    (r ≡ span_of f) × (t ≡ record s { at = next_of s.at f })
