-- A power of ten. Assumes nothing.
use Rattle.std.specs.Prelude.{ℕ, ◌^◌, false, Float}
use Rattle.std.specs.Float.Ieee.Exact.{HasValue}

-- 10 ^ k, exactly
pub record Tens (k : ℕ) (x : Float) : Type 0 where
  pub value : HasValue x false (10 ^ k) 1
