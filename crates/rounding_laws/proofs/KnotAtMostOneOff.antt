-- Where all points are indexed, each point's cell is near its exact place too: the axis of the points is made, accepts each of them, and its ends are
-- two of them. Assumes nothing.
use mathlib.Core.Path.{◌≡◌}
use Prim.Native.Nat.{ℕ, suc, ◌<◌}
use native.Mathlib.Omega.{arith}
use mathlib.Core.Bool.{Bool, true, false, cond}
use mathlib.Core.List.{List, [], ◌∷◌}
use lib.ListN.{length, get_or}
use lib.Ieee.{Float, lt}
use Rattle.rules.specs.Refusals.{first_of, nought, axis_tests}
use Rattle.rules.specs.Axis.{widen, widen_all, extent_of}
use Rattle.rules.specs.Knots.{axis_over, knot}
use Rattle.rules.specs.declared.Extent.{Extent}
use Rattle.requests.specs.Scaled.{IsF64}
use Rattle.requests.specs.Rounding.{AxisIsF64, AllF64, KnotAtMostOneOff}
use Rattle.axis_laws.proofs.AxisAccepts.{not_refused, knot_found}
use Rattle.rounding_laws.proofs.CellAtMostOneOff.{made_is_f64, record_at_most_one_off}

-- the ends are f64s where all points are
either : (b : Bool) (x y : Float) → IsF64 x → IsF64 y → IsF64 (cond b x y)
either true x y p q = p
either false x y p q = q

all_fit : (e : Extent) (xs : List Float) → IsF64 e.low → IsF64 e.high → AllF64 xs
    → IsF64 (widen_all e xs).low × IsF64 (widen_all e xs).high
unfolding widen_all widen
all_fit e [] l h f = (l, h)
all_fit e (x ∷ xs) l h f =
    let x64 : IsF64 x = f 0 (omega arith) in
    all_fit (widen e x) xs (either (lt x e.low) x e.low x64 l) (either (lt e.high x) x e.high x64 h) (λ j k. f (suc j) (omega arith))

extent_fits : (xs : List Float) → 0 < length xs → AllF64 xs → IsF64 (extent_of xs).low × IsF64 (extent_of xs).high
unfolding extent_of
extent_fits [] h f = absurd (omega arith)
extent_fits (x ∷ xs) h f = let x64 : IsF64 x = f 0 (omega arith) in all_fit (record { low = x; high = x }) xs x64 x64 (λ j k. f (suc j) (omega arith))

module _ (xs : List Float) (order : ℕ) (f64 : AllF64 xs) where
  pub over_is_f64 : 0 < length xs → first_of (axis_tests (extent_of xs).low (extent_of xs).high order) ≡ 0 → AxisIsF64 (axis_over xs order)
  unfolding axis_over
  over_is_f64 some made = let e = extent_fits xs some f64 in made_is_f64 (extent_of xs).low (extent_of xs).high order e.0 e.1 made

pub knot_at_most_one_off : KnotAtMostOneOff
knot_at_most_one_off xs order i f64 fit thick few h =
    let some : 0 < length xs = omega arith in
    record_at_most_one_off (axis_over xs order) (get_or xs i nought) (knot xs order i) (over_is_f64 xs order f64 some (not_refused xs order some fit few thick)) (f64 i h)
    (knot_found xs order some fit few thick i h)
