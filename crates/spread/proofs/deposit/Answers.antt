-- Where a mask differs from itself in six bits alone it is the one that repeats them, no bits or a mask of the z-order. Assumes nothing.
use Rattle.std.proofs.Common.{◌≡◌, ℕ, ◌*◌, ◌%◌, ◌^◌, ◌<◌, sym, ap, ◌∙◌, arith, lit<}
use lib.Bits.{bit_xor}
use Rattle.rules.specs.Curve.{deposit_of}
use Rattle.curve_laws.proofs.Spread.{spread_none}
use Rattle.spread.proofs.Masks.{x_of_2, y_of_3, x_of_3}
use Rattle.spread.proofs.Repeats.{repeated, repeats}
use Rattle.spread.proofs.deposit.Goals as goal

-- where the mask repeats the six bits of the arm
told : {r : ℕ} (s m six : ℕ) → m < 2 ^ 64 → bit_xor m (m * 2 ^ 6 % 2 ^ 64) ≡ six → six < 2 ^ 6 → r ≡ deposit_of s (repeated 10 six)
    → r ≡ deposit_of s m
told s m six h e l p = p ∙ ap (deposit_of s) (sym (repeats m six h e l))

pub returns-in-0 : goal.returns-in-0
returns-in-0 c = told _ c.args.mask 0 (omega arith) (omega arith) (lit< tt) (sym (spread_none 64 _))

pub returns-in-21 : goal.returns-in-21
returns-in-21 c = told _ c.args.mask 0b010101 (omega arith) (omega arith) (lit< tt) c.spread_2d.ensures

pub returns-in-42 : goal.returns-in-42
returns-in-42 c = told _ c.args.mask 0b101010 (omega arith) (omega arith) (lit< tt) (x_of_2 _ c.spread_2d-in-42.ensures)

pub returns-in-9 : goal.returns-in-9
returns-in-9 c = told _ c.args.mask 0b001001 (omega arith) (omega arith) (lit< tt) c.spread_3d.ensures

pub returns-in-18 : goal.returns-in-18
returns-in-18 c = told _ c.args.mask 0b010010 (omega arith) (omega arith) (lit< tt) (y_of_3 _ c.spread_3d-in-18.ensures)

pub returns-in-36 : goal.returns-in-36
returns-in-36 c = told _ c.args.mask 0b100100 (omega arith) (omega arith) (lit< tt) (x_of_3 _ c.spread_3d-in-36.ensures)
