-- The extent of points is the first point, widened by those behind it. Assumes nothing.
use mathlib.Core.Path.{◌≡◌, refl, sym}
use mathlib.Core.List.{List, [], ◌∷◌}
use Prim.Native.Nat.{ℕ, ◌≤◌}
use native.Mathlib.Omega.{arith}
use lib.ListN.{length, take}
use lib.Ieee.{Float}
use Rattle.std.specs.Prelude.{fold}
use Rattle.std.proofs.lemmas.List.{take_all}
use Rattle.rules.specs.Refusals.{nought}
use Rattle.rules.specs.Axis.{widen, widen_all, extent_of}
use Rattle.rules.specs.declared.Extent.{Extent}

widened : (e : Extent) (xs : List Float) → widen_all e xs ≡ fold widen e xs
unfolding widen_all
widened e [] = refl
widened e (x ∷ xs) = widened (widen e x) xs

pub folded : (xs others : List Float) (x : Float) (n : ℕ) → xs ≡ x ∷ others → length others ≤ n
    → fold widen (record { low = x; high = x }) (take n others) ≡ extent_of xs
unfolding extent_of
folded xs others x n e h = rw (e, take_all n others h) (sym (widened (record { low = x; high = x }) others))

pub none : (xs : List Float) → length xs ≡ 0 → record { low = nought; high = nought } ≡ extent_of xs
unfolding extent_of
none [] h = refl
none (x ∷ xs) h = absurd (omega arith)
