-- The weighted median's answer.
use Rattle.std.specs.Prelude.{ℕ, ◌≤◌, ◌<◌, ◌≡◌, List, get_or, length}
use Rattle.rules.specs.Sums.{total}
use Rattle.rules.specs.Halving.{cut_of}

abbrev pub line_at : List ℕ → ℕ → ℕ
line_at lines i = get_or lines i 0

-- no line weighs more than all cells of a block that is 1,024 long, wide and high, all of the heaviest weight
unfoldable pub LinesLight : List ℕ → Type 0
LinesLight lines = (i : ℕ) → i < length lines → line_at lines i ≤ 18014397435740160

-- the rule's cut of m lines of weights a 0, a 1, .. for lo and hi, and the weight before it
pub record CutIs (a : ℕ → ℕ) (m lo hi at left : ℕ) : Type 0 where
  pub place : at ≡ cut_of a m lo hi
  pub weight : left ≡ total a at
  pub inside : at < m
