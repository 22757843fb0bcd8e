-- The record of an axis that is given by its low and high. Assumes nothing.
use Rattle.std.specs.Prelude.{ℕ, Result, Ok, Err}
use Rattle.rules.specs.Axis.{make_axis}
use Rattle.rules.specs.declared.Axis.{Axis}
use Rattle.rules.specs.declared.Axis.TheVariants.{Flat}
use Rattle.rules.specs.declared.refusal.Refusal.{Refusal}
use Rattle.rules.specs.declared.Extent.{Extent}

-- the axis that is made, or a flat record with the same ends where it is refused
unfoldable pub record_by : Result Axis Refusal → Extent → ℕ → Axis
record_by (Ok a) e order = a
record_by (Err r) e order = Flat e.low e.high order

abbrev pub record_in : Extent → ℕ → Axis
record_in e order = record_by (make_axis e.low e.high order) e order
