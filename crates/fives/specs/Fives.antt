-- What the functions promise one another: powers of two, numbers in parts, and whole numbers that stand for fractions. Assumes nothing.
use Rattle.std.specs.Prelude.{◌≡◌, ℕ, ◌+◌, ◌*◌, ◌^◌, ◌<◌, ◌≤◌, false, Float}
use Rattle.std.specs.Float.{binary64}
use Rattle.std.specs.Float.Ieee.Exact.{HasValue}
use Rattle.std.specs.Float.Ieee.Scale.{grid}
use Rattle.fives.specs.declared.parts.Parts.{Parts}
use Rattle.fives.specs.declared.Marked.{Marked}

-- 2 ^ up / 2 ^ down, exactly
pub record Power (up down : ℕ) (x : Float) : Type 0 where
  pub value : HasValue x false (2 ^ up) (2 ^ down)

-- the number that stands in parts
abbrev pub number_of : Parts → ℕ
number_of p = (p.high * p.second + p.middle) * p.first + p.low

-- a whole number that rounds as a fraction does
unfoldable pub Alike : ℕ → ℕ → ℕ → Type 0
Alike a b whole = grid binary64 a b ≡ grid binary64 whole 1

-- a whole number that stands for a / b, 2 ^ shift times as large
pub record Stands (a b : ℕ) (m : Marked) : Type 0 where
  pub alike : Alike (a * 2 ^ m.shift) b m.whole
  pub reaches : b ≤ a * 2 ^ m.shift
  pub large : m.whole < 2 ^ 64
  pub short : m.shift < 200
