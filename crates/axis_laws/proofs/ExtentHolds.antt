-- Low and high of fit points hold them all: an end that is replaced moves outward. Assumes nothing.
use mathlib.Core.Path.{◌≡◌, refl}
use Prim.Native.Nat.{ℕ, zero, suc, ◌<◌}
use native.Mathlib.Omega.{arith}
use mathlib.Core.Bool.{Bool, true, false, cond}
use mathlib.Core.List.{List, [], ◌∷◌}
use lib.Dec.{T}
use lib.ListN.{length, get_or}
use lib.Ieee.{Float, lt}
use lib.Ieee.Scale.{finite}
use Rattle.rules.specs.Sums.{any}
use Rattle.rules.specs.Refusals.{nought, value_unfit}
use Rattle.rules.specs.Axis.{widen, widen_all, extent_of}
use Rattle.rules.specs.declared.Extent.{Extent}
use Rattle.laws.proofs.Any.{neither}
use Rattle.axis_laws.proofs.AtMost.{at_most, at_most_itself, at_most_trans, nlt→at_most, lt→at_most}
use Rattle.axis_laws.proofs.Passed.{fit_finite}

-- both ends are fit, and the one is at most the other
pub record Proper (e : Extent) : Type 0 where
  pub low_fit : value_unfit e.low ≡ false
  pub high_fit : value_unfit e.high ≡ false
  pub ordered : at_most e.low e.high

-- a point between both ends
pub record Holds (e : Extent) (x : Float) : Type 0 where
  pub above : at_most e.low x
  pub below : at_most x e.high

-- the ends are where they were or further out
record Outward (e e' : Extent) : Type 0 where
  down : at_most e'.low e.low
  up : at_most e.high e'.high

held : (e e' : Extent) (x : Float) → Outward e e' → Holds e x → Holds e' x
held e e' x o h =
    record { above = at_most_trans e'.low e.low x o.down h.above; below = at_most_trans x e.high e'.high h.below o.up }

-- the smaller of two, and the larger
low_down : (x y : Float) → T (finite x) → T (finite y) → at_most (cond (lt x y) x y) y × at_most (cond (lt x y) x y) x
low_down x y p q = go (lt x y) refl
  where
    go : (b : Bool) → lt x y ≡ b → at_most (cond b x y) y × at_most (cond b x y) x
    go true e = (lt→at_most x y p q e, at_most_itself x)
    go false e = (at_most_itself y, nlt→at_most x y p q e)

high_up : (x y : Float) → T (finite x) → T (finite y) → at_most y (cond (lt y x) x y) × at_most x (cond (lt y x) x y)
high_up x y p q = go (lt y x) refl
  where
    go : (b : Bool) → lt y x ≡ b → at_most y (cond b x y) × at_most x (cond b x y)
    go true e = (lt→at_most y x q p e, at_most_itself x)
    go false e = (at_most_itself y, nlt→at_most y x q p e)

either : (b : Bool) (x y : Float) → value_unfit x ≡ false → value_unfit y ≡ false → value_unfit (cond b x y) ≡ false
either true x y p q = p
either false x y p q = q

-- one more point
widen_outward : (e : Extent) (x : Float) → Proper e → value_unfit x ≡ false → Outward e (widen e x)
unfolding widen
widen_outward e x p f =
    record {
      down = (low_down x e.low (fit_finite x f) (fit_finite e.low p.low_fit)).0;
      up = (high_up x e.high (fit_finite x f) (fit_finite e.high p.high_fit)).0;
    }

widen_holds : (e : Extent) (x : Float) → Proper e → value_unfit x ≡ false → Holds (widen e x) x
unfolding widen
widen_holds e x p f =
    record {
      above = (low_down x e.low (fit_finite x f) (fit_finite e.low p.low_fit)).1;
      below = (high_up x e.high (fit_finite x f) (fit_finite e.high p.high_fit)).1;
    }

widen_proper : (e : Extent) (x : Float) → Proper e → value_unfit x ≡ false → Proper (widen e x)
unfolding widen
widen_proper e x p f =
    let h = widen_holds e x p f in
    record {
      low_fit = either (lt x e.low) x e.low f p.low_fit;
      high_fit = either (lt e.high x) x e.high f p.high_fit;
      ordered = at_most_trans (widen e x).low x (widen e x).high h.above h.below;
    }

-- all points
all_proper : (e : Extent) (xs : List Float) → Proper e → any value_unfit xs ≡ false → Proper (widen_all e xs)
unfolding widen_all any
all_proper e [] p f = p
all_proper e (x ∷ xs) p f = let n = neither (value_unfit x) (any value_unfit xs) f in all_proper (widen e x) xs (widen_proper e x p n.0) n.1

all_outward : (e : Extent) (xs : List Float) → Proper e → any value_unfit xs ≡ false → Outward e (widen_all e xs)
unfolding widen_all any
all_outward e [] p f = record { down = at_most_itself e.low; up = at_most_itself e.high }
all_outward e (x ∷ xs) p f =
    let n = neither (value_unfit x) (any value_unfit xs) f in
    let w = widen e x in
    let a = widen_outward e x p n.0 in
    let b = all_outward w xs (widen_proper e x p n.0) n.1 in
    let all = widen_all w xs in
    record { down = at_most_trans all.low w.low e.low b.down a.down; up = at_most_trans e.high w.high all.high a.up b.up }

all_hold : (e : Extent) (xs : List Float) (i : ℕ) → Proper e → any value_unfit xs ≡ false → i < length xs → Holds (widen_all e xs) (get_or xs i nought)
unfolding widen_all any
all_hold e [] i p f h = absurd (omega arith)
all_hold e (x ∷ xs) zero p f h =
    let n = neither (value_unfit x) (any value_unfit xs) f in
    held (widen e x) (widen_all (widen e x) xs) x (all_outward (widen e x) xs (widen_proper e x p n.0) n.1) (widen_holds e x p n.0)
all_hold e (x ∷ xs) (suc i) p f h =
    let n = neither (value_unfit x) (any value_unfit xs) f in
    all_hold (widen e x) xs i (widen_proper e x p n.0) n.1 (omega arith)

-- the first point's own extent
alone : (x : Float) → value_unfit x ≡ false → Proper (record { low = x; high = x })
alone x f = record { low_fit = f; high_fit = f; ordered = at_most_itself x }

pub extent_proper : (xs : List Float) → 0 < length xs → any value_unfit xs ≡ false → Proper (extent_of xs)
unfolding extent_of any
extent_proper [] h f = absurd (omega arith)
extent_proper (x ∷ xs) h f = let n = neither (value_unfit x) (any value_unfit xs) f in all_proper (record { low = x; high = x }) xs (alone x n.0) n.1

pub extent_holds : (xs : List Float) (i : ℕ) → any value_unfit xs ≡ false → i < length xs → Holds (extent_of xs) (get_or xs i nought)
unfolding extent_of any
extent_holds [] i f h = absurd (omega arith)
extent_holds (x ∷ xs) zero f h =
    let n = neither (value_unfit x) (any value_unfit xs) f in
    let e : Extent = record { low = x; high = x } in
    held e (widen_all e xs) x (all_outward e xs (alone x n.0) n.1) (record { above = at_most_itself x; below = at_most_itself x })
extent_holds (x ∷ xs) (suc i) f h =
    let n = neither (value_unfit x) (any value_unfit xs) f in
    all_hold (record { low = x; high = x }) xs i (alone x n.0) n.1 (omega arith)
