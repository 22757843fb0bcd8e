-- The fields of a few lines, computed. Assumes nothing.
use Prim.Native.Nat.{ℕ}
use mathlib.Core.Path.{◌≡◌, refl}
use mathlib.Core.List.{List, [], ◌∷◌}
use Rattle.fields.specs.Fields.{field_at}
use Rattle.fields.specs.declared.Field.TheVariants as field

-- 24,,3
abbrev three_fields : List ℕ
three_fields = 50 ∷ 52 ∷ 44 ∷ 44 ∷ 51 ∷ []

pub empty_in_the_middle : (field_at 44 three_fields 0 ≡ field.Word 0 2 3) × (field_at 44 three_fields 3 ≡ field.Word 3 3 4) × (field_at 44 three_fields 4 ≡ field.Word 4 5 5) × (field_at 44 three_fields 5 ≡ field.End)
empty_in_the_middle = (refl, refl, refl, refl)

-- "a,b";2 by semicolons, and by commas, where something stands behind the closing quote
abbrev quoted_field : List ℕ
quoted_field = 34 ∷ 97 ∷ 44 ∷ 98 ∷ 34 ∷ 59 ∷ 50 ∷ []

pub between_quotes : (field_at 59 quoted_field 0 ≡ field.Word 1 4 6) × (field_at 59 quoted_field 6 ≡ field.Word 6 7 7) × (field_at 44 quoted_field 0 ≡ field.Word 0 2 3) × (field_at 44 quoted_field 3 ≡ field.Word 3 7 7)
between_quotes = (refl, refl, refl, refl)

-- C# 24 #x by blanks, and by commas
abbrev hashes : List ℕ
hashes = 67 ∷ 35 ∷ 32 ∷ 50 ∷ 52 ∷ 32 ∷ 35 ∷ 120 ∷ []

pub hash_behind_a_blank : (field_at 32 hashes 0 ≡ field.Word 0 2 3) × (field_at 32 hashes 3 ≡ field.Word 3 5 6) × (field_at 32 hashes 6 ≡ field.Comment 8) × (field_at 44 hashes 0 ≡ field.Word 0 5 6)
hash_behind_a_blank = (refl, refl, refl, refl)

-- 5 , and a line's end of two bytes
abbrev two_byte_end : List ℕ
two_byte_end = 53 ∷ 32 ∷ 44 ∷ 13 ∷ 10 ∷ []

pub nothing_behind_the_last_separator : (field_at 44 two_byte_end 0 ≡ field.Word 0 1 3) × (field_at 44 two_byte_end 3 ≡ field.LineEnd 5)
nothing_behind_the_last_separator = (refl, refl)
