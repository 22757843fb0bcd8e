-- A deposit under way. Assumes nothing.
use Rattle.std.specs.Prelude.{ℕ, bit_or}
use Rattle.rules.specs.Curve.{spread}
use Rattle.spread.specs.declared.Depositing.{Depositing}

-- what it comes to: what is placed, and what is left of the source spread onto what is left of the mask
unfoldable pub comes_to : Depositing → ℕ
comes_to d = bit_or d.result (spread 64 d.srcbit d.bitmask)
