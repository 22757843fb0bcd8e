-- What is said of a tally: the words of tally_laws, of its fields.
use Rattle.std.specs.Prelude.{ℕ, ◌+◌, ◌*◌, ◌≡◌, List, get_or, length, replicate, set}
use Rattle.rules.specs.Sums.{top}
use Rattle.rules.specs.Grid.{on}
use Rattle.tally_laws.specs.Added.{raised, lines_with, Fits}
use Rattle.tally_laws.specs.Tallied.{Tallied}
use Rattle.tallies.specs.declared.Tally.{Tally}

-- no cells
unfoldable pub nothing : Tally
nothing = record { all = 0; heaviest = 0; lines = replicate 3072 0; parts = replicate 4096 0 }

-- the lines of a cell got an amount, and nothing else changed
pub record LinesRaised (sides : List ℕ) (cell amount : ℕ) (before after : Tally) : Type 0 where
  pub all : after.all ≡ before.all
  pub heaviest : after.heaviest ≡ before.heaviest
  pub lines : after.lines ≡ lines_with sides cell amount before.lines (length sides)
  pub parts : after.parts ≡ before.parts

-- an amount at a cell of a part can be added to all sums
abbrev pub CanPut : List ℕ → ℕ → ℕ → ℕ → Tally → Type 0
CanPut sides cell part amount t = Fits sides cell part amount t.all t.lines t.parts

-- and is to all but the heaviest line; the heaviest of the cell's lines is then `most`
pub record Put (sides : List ℕ) (cell part amount : ℕ) (before after : Tally) (most : ℕ) : Type 0 where
  pub all : after.all ≡ before.all + amount
  pub heaviest : after.heaviest ≡ before.heaviest
  pub lines : after.lines ≡ lines_with sides cell amount before.lines (length sides)
  pub parts : after.parts ≡ set before.parts part (get_or before.parts part 0 + amount)
  pub lines_most : most ≡ top (raised sides cell amount before.lines) (length sides)

-- the heaviest line, by the lines' sums
abbrev pub heaviest_of : List ℕ → List ℕ → ℕ
heaviest_of sides ls = top (λ a. top (λ j. get_or ls (a * 1024 + j) 0) (on sides a)) (length sides)

-- it has the sums of weights and ids
abbrev pub Sums : List ℕ → List ℕ → List ℕ → Tally → Type 0
Sums sides ws ids t = Tallied sides ws ids t.all t.heaviest t.lines t.parts
