-- What an amount at a cell does to sums that stand in arrays. The sum of line j across axis a stands at a * 1024 + j, that of part i at i.
use Rattle.std.specs.Prelude.{ℕ, zero, suc, ◌+◌, ◌*◌, ◌^◌, ◌/◌, ◌<◌, max, ◌≡◌, List, get_or, length, set}
use Rattle.rules.specs.Sums.{top}
use Rattle.rules.specs.Grid.{cells, coords, on}
use Rattle.tally_laws.specs.Weighed.{Sided}

-- where the sum of a cell's line across axis a stands
abbrev pub place : List ℕ → ℕ → ℕ → ℕ
place sides cell a = a * 1024 + on (coords sides cell) a

-- that sum, with the amount
abbrev pub raised : List ℕ → ℕ → ℕ → List ℕ → ℕ → ℕ
raised sides cell amount ls a = get_or ls (place sides cell a) 0 + amount

-- the lines' sums, with the amount added across the first n axes
unfoldable pub lines_with : List ℕ → ℕ → ℕ → List ℕ → ℕ → List ℕ
lines_with sides cell amount ls zero = ls
lines_with sides cell amount ls (suc a) = set (lines_with sides cell amount ls a) (place sides cell a) (raised sides cell amount ls a)

-- what is left of a cell's number after the coordinates on the first n axes
unfoldable pub rest_of : List ℕ → ℕ → ℕ → ℕ
rest_of sides cell zero = cell
rest_of sides cell (suc a) = rest_of sides cell a / on sides a

-- the sums of the cell's lines can be raised
pub record Raisable (sides : List ℕ) (cell amount : ℕ) (ls : List ℕ) : Type 0 where
  pub fits : (a : ℕ) → a < length sides → raised sides cell amount ls a < 2 ^ 64

-- an amount at a cell of a part can be added to all sums: T of all cells, ls of lines, ps of parts
pub record Fits (sides : List ℕ) (cell part amount T : ℕ) (ls ps : List ℕ) : Type 0 where
  pub sided : Sided sides
  pub inside : cell < cells sides
  pub named : part < 4096
  pub lines_long : length ls ≡ 3072
  pub parts_long : length ps ≡ 4096
  pub all : T + amount < 2 ^ 64
  pub lines : Raisable sides cell amount ls
  pub parts : get_or ps part 0 + amount < 2 ^ 64

-- and is: T', M', ls' and ps' are what T, the heaviest line M, ls and ps become
pub record Added (sides : List ℕ) (cell part amount T M : ℕ) (ls ps : List ℕ) (T' M' : ℕ) (ls' ps' : List ℕ) : Type 0 where
  pub all : T' ≡ T + amount
  pub heaviest : M' ≡ max M (top (raised sides cell amount ls) (length sides))
  pub lines : ls' ≡ lines_with sides cell amount ls (length sides)
  pub parts : ps' ≡ set ps part (get_or ps part 0 + amount)
