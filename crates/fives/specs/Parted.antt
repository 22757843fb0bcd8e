-- A whole number in parts, (h * s + m) * f + l. Assumes nothing.
use Rattle.std.specs.Prelude.{ℕ, ◌^◌, ◌<◌, ◌≤◌}

-- each part lies below its base
pub record Parted (f s h m l : ℕ) : Type 0 where
  pub low : l < f
  pub middle : m < s
  pub high : h < 2 ^ 64
  pub first_few : f ≤ 2 ^ 52
  pub second_few : s ≤ 2 ^ 52
