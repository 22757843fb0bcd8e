-- The encoder's table of six levels at once. Assumes nothing.
use Rattle.std.specs.Prelude.{ℕ, ◌+◌, ◌*◌, ◌<◌, ◌≡◌, List, [], get_or}
use Rattle.rules.specs.Curve.{group_entry, plane}

-- a table of which each entry below n is what six steps of the slow machine give
pub record RuledBelow (n : ℕ) (table : List ℕ) : Type 0 where
  pub at : (i : ℕ) → i < n → get_or table i 0 ≡ group_entry plane 6 i

-- and of which every entry is
abbrev pub Ruled : List ℕ → Type 0
Ruled table = RuledBelow 16384 table

-- a quarter of a state's entries: n is 4 * state + the quadrant of the topmost level
pub record RuledQuarter (n : ℕ) (entries : List ℕ) : Type 0 where
  pub at : (z : ℕ) → z < 1024 → get_or entries z 0 ≡ group_entry plane 6 (1024 * n + z)

-- the four quarters of a state
pub record RuledState (s : ℕ) (quarters : List (List ℕ)) : Type 0 where
  pub at : (q : ℕ) → q < 4 → RuledQuarter (4 * s + q) (get_or quarters q [])
