-- A call on the records of low and high files what it files on the axes from low to high: a record has the same ends, the first questions ask of
-- nothing else, and where none of them passes the record is that axis. Assumes nothing.
use Prim.Native.Nat.{ℕ, zero, suc, ◌≤◌}
use native.Mathlib.Nat.{le_refl}
use native.Mathlib.Omega.{arith}
use mathlib.Core.Path.{◌≡◌, refl}
use mathlib.Core.Bool.{Bool, true, false, cond}
use mathlib.Core.List.{List, [], ◌∷◌}
use lib.Dec.{lit≤}
use lib.ListN.{length, take, drop}
use lib.Ieee.{Float}
use borrow.Author.Tests.{ltb-false}
use Rattle.std.specs.Prelude.{Err}
use Rattle.rules.specs.Sums.{any}
use Rattle.rules.specs.Refusals.{Test, test, first_of, top2, top3, order_over, no_points, lengths_off, value_unfit, axis_thin, reversed, axis_tests, answer_by, slice_by}
use Rattle.rules.specs.Axis.{make_axis, low_of, high_of}
use Rattle.rules.specs.Knots.{filed_by}
use Rattle.rules.specs.declared.refusal.Refusal.TheVariants.{Order, NoPoints, Lengths, Value, Thin, Outside}
use Rattle.rules.specs.declared.Axis.{Axis}
use Rattle.rules.specs.declared.Extent.{Extent}
use Rattle.laws.proofs.Any.{neither}
use Rattle.laws.proofs.Exactly.{none_passes, first_earlier}
use Rattle.axis_laws.proofs.AxisAccepts.{ends_of}
use Rattle.given_laws.proofs.NeverForeign.{made_of_ends}
use Rattle.knots_given.specs.Given.{Given, on, questions, asked_of, on_tests, axis_in, index_on2, index_in2, index_on3, index_in3}
use Rattle.given_axis.specs.Records.{record_by, record_in}

-- coordinates with the low and high of their axis
record Side : Type 0 where
  points : List Float
  extent : Extent

abbrev side : List Float → Extent → Side
side xs e = record { points = xs; extent = e }

module _ (order : ℕ) where
  -- an axis and a record have the ends that they are made of
  axis_ends : (e : Extent) → (low_of (axis_in e order) ≡ e.low) × (high_of (axis_in e order) ≡ e.high)
  axis_ends e = let ends = ends_of e.low e.high order in (ends.0, ends.1)

  record_ends : (e : Extent) → (low_of (record_in e order) ≡ e.low) × (high_of (record_in e order) ≡ e.high)
  unfolding make_axis record_by
  record_ends e = go (axis_tests e.low e.high order)
    where
      go : (ts : List Test) → let a = record_by (answer_by ts (axis_in e order)) e order in (low_of a ≡ e.low) × (high_of a ≡ e.high)
      go [] = axis_ends e
      go (t ∷ ts) = either t.passes (go ts)
        where
          either : (b : Bool) → (let a = record_by (answer_by ts (axis_in e order)) e order in (low_of a ≡ e.low) × (high_of a ≡ e.high))
              → let a = record_by (cond b (Err t.refusal) (answer_by ts (axis_in e order))) e order in (low_of a ≡ e.low) × (high_of a ≡ e.high)
          either true p = (refl, refl)
          either false p = p

  -- a record is the axis where no test of its ends passes
  record_made : (e : Extent) → order ≤ top2 → any value_unfit (e.low ∷ e.high ∷ []) ≡ false → reversed e.low e.high ≡ false → axis_thin e.low e.high ≡ false
      → record_in e order ≡ axis_in e order
  unfolding record_by
  record_made e few fit ordered thick = rw (made_of_ends e order few fit ordered thick)

  -- the records of all sides are the axes
  abbrev AllMade : List Side → Type 0
  AllMade [] = Unit {0}
  AllMade (s ∷ ss) = (record_in s.extent order ≡ axis_in s.extent order) × AllMade ss

  all_made : (ss : List Side) → order ≤ top2 → any (λ s. any value_unfit (s.extent.low ∷ s.extent.high ∷ [])) ss ≡ false
      → any (λ s. reversed s.extent.low s.extent.high) ss ≡ false → any (λ s. axis_thin s.extent.low s.extent.high) ss ≡ false → AllMade ss
  unfolding any
  all_made [] few fit ordered thick = tt
  all_made (s ∷ ss) few fit ordered thick =
      let f = neither _ _ fit in
      let o = neither _ _ ordered in
      let t = neither _ _ thick in
      (record_made s.extent few f.0 o.0 t.0, all_made ss few f.1 o.1 t.1)

-- sides with their axes by their extents
given_by : (Extent → Axis) → List Side → List Given
given_by f [] = []
given_by f (s ∷ ss) = on s.points (f s.extent) ∷ given_by f ss

-- a test of the ends alone is a test of low and high, on axes that have these ends
abbrev HasEnds : (Extent → Axis) → Type 0
HasEnds f = (e : Extent) → (low_of (f e) ≡ e.low) × (high_of (f e) ≡ e.high)

of_ends : (f : Extent → Axis) → HasEnds f → (p : Float → Float → Bool) (ss : List Side)
    → any (λ g. p (low_of g.axis) (high_of g.axis)) (given_by f ss) ≡ any (λ s. p s.extent.low s.extent.high) ss
unfolding any given_by
of_ends f same p [] = refl
of_ends f same p (s ∷ ss) = rw ((same s.extent).0, (same s.extent).1, of_ends f same p ss)

-- a call on n points and these sides
module _ (most order n : ℕ) (few : most ≤ top2) (lengths : List ℕ) (ss : List Side) where
  -- the tests of the shape and of the ends, as tests of low and high
  abbrev early : List Test
  early =
      test (order_over most order) Order
      ∷ test (no_points n) NoPoints
      ∷ test (lengths_off n lengths) Lengths
      ∷ test (any (λ s. any value_unfit (s.extent.low ∷ s.extent.high ∷ [])) ss) Value
      ∷ test (any (λ s. reversed s.extent.low s.extent.high) ss) Outside
      ∷ test (any (λ s. axis_thin s.extent.low s.extent.high) ss) Thin ∷ []

  abbrev called : (Extent → Axis) → List Test
  called f = on_tests most order n lengths (given_by f ss)

  -- where one of them passes it gives the number
  refused_early : (f : Extent → Axis) → HasEnds f → (k : ℕ) → first_of early ≡ suc k → first_of (called f) ≡ suc k
  unfolding on_tests questions asked_of
  refused_early f same k e =
      first_earlier (take 6 (called f)) (drop 6 (called f)) k
      (rw (of_ends f same (λ low high. any value_unfit (low ∷ high ∷ [])) ss, of_ends f same reversed ss, of_ends f same axis_thin ss) e)

  -- where none does the records are the axes
  passed_early : first_of early ≡ 0 → AllMade order ss
  passed_early e =
      let none = none_passes early e in
      let fits : order ≤ top2 = omega (arith, ltb-false most order none.0) in
      all_made order ss fits none.1.1.1.0 none.1.1.1.1.0 none.1.1.1.1.1.0

  abbrev on_records : List Test
  on_records = called (λ e. record_in e order)

  abbrev on_axes : List Test
  on_axes = called (λ e. axis_in e order)

  -- what is written is the same where the records are the axes
  files_the_same : (written written' before : List ℕ) → (AllMade order ss → (first_of on_records ≡ first_of on_axes) × (written ≡ written'))
      → filed_by (first_of on_records) written before ≡ filed_by (first_of on_axes) written' before
  unfolding slice_by
  files_the_same written written' before made = go (first_of early) refl
    where
      go : (k : ℕ) → first_of early ≡ k → filed_by (first_of on_records) written before ≡ filed_by (first_of on_axes) written' before
      go zero e = let m = made (passed_early e) in rw (m.0, m.1)
      go (suc k) e = rw (refused_early (λ e. record_in e order) (record_ends order) k e, refused_early (λ e. axis_in e order) (axis_ends order) k e)

pub files_the_same_2d : (xs ys : List Float) (x y : Extent) (order : ℕ) (before : List ℕ) (xaxis yaxis : Axis) → xaxis ≡ record_in x order → yaxis ≡ record_in y order
    → index_on2 xs ys xaxis yaxis order before ≡ index_in2 xs ys x y order before
unfolding index_on2 given_by
files_the_same_2d xs ys x y order before xaxis yaxis e f =
    rw (e, f)
    (files_the_same top2 order (length xs) (le_refl top2) (length ys ∷ length before ∷ []) (side xs x ∷ side ys y ∷ []) _ _ before (λ m. rw (m.0, m.1.0) (refl, refl)))

pub files_the_same_3d : (xs ys zs : List Float) (x y z : Extent) (order : ℕ) (before : List ℕ) (xaxis yaxis zaxis : Axis) → xaxis ≡ record_in x order → yaxis ≡ record_in y order → zaxis ≡ record_in z order
    → index_on3 xs ys zs xaxis yaxis zaxis order before ≡ index_in3 xs ys zs x y z order before
unfolding index_on3 given_by
files_the_same_3d xs ys zs x y z order before xaxis yaxis zaxis e f g =
    rw (e, f, g)
    (files_the_same top3 order (length xs) (lit≤ tt) (length ys ∷ length zs ∷ length before ∷ []) (side xs x ∷ side ys y ∷ side zs z ∷ []) _ _ before (λ m. rw (m.0, m.1.0, m.1.1.0) (refl, refl)))
