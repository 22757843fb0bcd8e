-- The sizes for which the bounds are tested: each side is then a number below 2^49 times a power of a byte, and has room in a wide number.
use Rattle.std.specs.Prelude.{ℕ, ◌≤◌, ◌<◌, ◌^◌}
use Rattle.rules.specs.Refusals.{top_depth}

-- more than any sum of weights of a grid
abbrev pub top_sum : ℕ
top_sum = 2 ^ 40

-- of k levels, the weight T of all cells and the heaviest line M
pub record Small (k T M : ℕ) : Type 0 where
  pub depth : k ≤ top_depth
  pub all : T < top_sum
  pub line : M < top_sum
