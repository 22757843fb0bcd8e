-- What parts the fields of a few texts, computed. Assumes nothing.
use mathlib.Core.Path.{◌≡◌, refl}
use mathlib.Core.List.{[], ◌∷◌}
use Rattle.separators.specs.Separators.{separator_of}

-- "a,b";2
pub behind_quotes : separator_of (34 ∷ 97 ∷ 44 ∷ 98 ∷ 34 ∷ 59 ∷ 50 ∷ []) ≡ 59
behind_quotes = refl

-- a line of a comment with a comma, an empty one, then a tab and 24;5
pub tab_in_front : separator_of (35 ∷ 44 ∷ 10 ∷ 32 ∷ 9 ∷ 13 ∷ 10 ∷ 9 ∷ 50 ∷ 52 ∷ 59 ∷ 53 ∷ []) ≡ 9
tab_in_front = refl

-- C# 24 #,
pub none_before_a_comment : separator_of (67 ∷ 35 ∷ 32 ∷ 50 ∷ 52 ∷ 32 ∷ 35 ∷ 44 ∷ []) ≡ 32
none_before_a_comment = refl

-- the first line that has a word decides: 24 5, and then 1,2
pub first_line_decides : separator_of (50 ∷ 52 ∷ 32 ∷ 53 ∷ 13 ∷ 10 ∷ 49 ∷ 44 ∷ 50 ∷ []) ≡ 32
first_line_decides = refl

-- 7" target,focal
pub quote_in_a_word : separator_of (55 ∷ 34 ∷ 32 ∷ 116 ∷ 97 ∷ 114 ∷ 103 ∷ 101 ∷ 116 ∷ 44 ∷ 102 ∷ 111 ∷ 99 ∷ 97 ∷ 108 ∷ []) ≡ 44
quote_in_a_word = refl

-- "a ""b"", c";d
pub two_quotes_for_one : separator_of (34 ∷ 97 ∷ 32 ∷ 34 ∷ 34 ∷ 98 ∷ 34 ∷ 34 ∷ 44 ∷ 32 ∷ 99 ∷ 34 ∷ 59 ∷ 100 ∷ []) ≡ 59
two_quotes_for_one = refl

-- "a"#x,y
pub comment_behind_quotes : separator_of (34 ∷ 97 ∷ 34 ∷ 35 ∷ 120 ∷ 44 ∷ 121 ∷ []) ≡ 32
comment_behind_quotes = refl
