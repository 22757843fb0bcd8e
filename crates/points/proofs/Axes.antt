-- What the answer of making the axis of fit points tells: that they are thin, or that the axis is made over them. Assumes nothing.
use mathlib.Core.Path.{◌≡◌, sym, ◌∙◌}
use mathlib.Core.Bool.{true, false}
use mathlib.Core.List.{List}
use Prim.Native.Nat.{ℕ, ◌≤◌, ◌<◌}
use native.Mathlib.Omega.{arith}
use lib.ListN.{length}
use lib.Ieee.{Float}
use Rattle.std.specs.Prelude.{Result, Ok, Err}
use Rattle.rules.specs.Sums.{any}
use Rattle.rules.specs.Refusals.{top2, value_unfit}
use Rattle.rules.specs.Axis.{make_axis, extent_of}
use Rattle.rules.specs.Knots.{thin_over, axis_over, knot}
use Rattle.rules.specs.declared.Axis.{Axis}
use Rattle.rules.specs.declared.refusal.Refusal.{Refusal}
use Rattle.rules.specs.declared.refusal.Refusal.TheVariants.{Thin}
use Rattle.axis_laws.proofs.AxisAccepts.{accepts, knot_below, over_refused, over_made}
use Rattle.points.specs.Takes.{Takes}

-- an axis that was made over n points
pub record Over (xs : List Float) (n order : ℕ) (a : Axis) : Type 0 where
  pub takes : Takes xs n order a
  pub thick : thin_over xs ≡ false
  pub made : a ≡ axis_over xs order

-- the axis of n fit points was asked for, and m is the answer
pub record Asked (xs : List Float) (n order : ℕ) (m : Result Axis Refusal) : Type 0 where
  pub all : length xs ≡ n
  pub some : 0 < n
  pub fit : any value_unfit xs ≡ false
  pub few : order ≤ top2
  pub is : m ≡ make_axis (extent_of xs).low (extent_of xs).high order

module _ {xs : List Float} {n order : ℕ} {m : Result Axis Refusal} (asked : Asked xs n order m) where
  some_points : 0 < length xs
  some_points = omega (arith, asked.all, asked.some)

  pub thin : (r : Refusal) → m ≡ Err r → (thin_over xs ≡ true) × (r ≡ Thin)
  thin r e = over_refused xs order some_points asked.fit r asked.few (sym asked.is ∙ e)

  pub over : (a : Axis) → m ≡ Ok a → Over xs n order a
  unfolding knot
  over a e =
      let o = over_made xs order some_points asked.fit a asked.few (sym asked.is ∙ e) in
      let all = asked.all in
      record {
        takes = record {
          all = all;
          accepts = λ i h. rw o.1 (accepts xs order some_points asked.fit asked.few o.0 i (omega arith));
          below = λ i h. rw o.1 (knot_below xs order some_points asked.fit asked.few o.0 i (omega arith));
        };
        thick = o.0;
        made = o.1;
      }
