-- f64s as whole numbers, and that both ways of being 1 off occur, a cell above the exact whole part and one below it: by computing. Assumes
-- nothing.
use mathlib.Core.Path.{◌≡◌, refl}
use Prim.Native.Nat.{ℕ, ◌*◌, ◌/◌, ◌^◌}
use lib.Dec.{lit<, lit≤}
use lib.IntN.{pos, neg_ℤ}
use lib.Ieee.{Float, binary64, of_bits, sub, mul, div, of_int, le, to_bits, is_nan, to_unsigned}
use Rattle.std.specs.Prelude.{Ok}
use Rattle.rules.specs.Sums.{any}
use Rattle.rules.specs.Refusals.{value_unfit, axis_thin, axis_tests, cell_tests}
use Rattle.rules.specs.Axis.{make_axis, cell_of}
use Rattle.rules.specs.declared.Axis.TheVariants.{Sloped}
use Rattle.requests.specs.Scaled.{scaled}
use Rattle.requests.specs.Rounding.{Place, AtMostOneOff}

abbrev f64 : ℕ → Float
f64 bits = of_bits binary64 bits

-- 1.0, -0.5, the least f64 above zero, 1,048,576.0
one_scaled : scaled (f64 0x3FF0000000000000) ≡ pos (2 ^ 1074)
unfolding scaled of_bits
one_scaled = refl

minus_half_scaled : scaled (f64 0xBFE0000000000000) ≡ neg_ℤ (pos (2 ^ 1073))
unfolding scaled of_bits
minus_half_scaled = refl

least_scaled : scaled (f64 1) ≡ pos 1
unfolding scaled of_bits
least_scaled = refl

two_to_20_scaled : scaled (f64 0x4130000000000000) ≡ pos (2 ^ 1094)
unfolding scaled of_bits
two_to_20_scaled = refl

-- the axis is made with this factor, the value has the cell c on it, q is the whole part of the exact quotient, and c is at most one off
pub record Occurs (low high factor value : Float) (order c q : ℕ) : Type 0 where
  pub made : make_axis low high order ≡ Ok (Sloped low high order factor)
  pub cell : cell_of (Sloped low high order factor) value ≡ Ok c
  pub place : Place low high value
  pub exact : place.across * 2 ^ order / place.whole ≡ q
  pub one_off : AtMostOneOff place.across place.whole order c

-- the axis from -3.0 to 1.8 at order 2, and 0.6
pub one_above : Occurs (f64 0xC008000000000000) (f64 0x3FFCCCCCCCCCCCCD) (f64 0x3FEAAAAAAAAAAAAA) (f64 0x3FE3333333333333) 2 3 2
unfolding of_bits make_axis cell_of scaled axis_tests any value_unfit le axis_thin sub to_bits div of_int mul cell_tests is_nan to_unsigned
one_above = record { made = refl; cell = refl; place = record { across = 32425917317067571 * 2 ^ 1021; whole = 21617278211378381 * 2 ^ 1022; to_value = refl; to_high = refl; not_flat = lit< tt }; exact = refl; one_off = record { one_less_at_most = lit≤ tt; two_more_above = lit< tt } }

-- the axis from 0.0 to 4.0 at order 2, and 2.0
pub one_below : Occurs (f64 0) (f64 0x4010000000000000) (f64 0x3FEFFFFFFFFFFFFF) (f64 0x4000000000000000) 2 1 2
unfolding of_bits make_axis cell_of scaled axis_tests any value_unfit le axis_thin sub to_bits div of_int mul cell_tests is_nan to_unsigned
one_below = record { made = refl; cell = refl; place = record { across = 2 ^ 1075; whole = 2 ^ 1076; to_value = refl; to_high = refl; not_flat = lit< tt }; exact = refl; one_off = record { one_less_at_most = lit≤ tt; two_more_above = lit< tt } }
