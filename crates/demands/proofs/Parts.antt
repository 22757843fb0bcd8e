-- REQUEST 1/14, parts along the curve: "Refusal 12 .. 4 .. 5 .. 11", "list the point numbers in order of index, equal indices by number",
-- "prove n·w <= T + n·c for every part", of every call; and "split i is the smallest index present such that n times the weight at or
-- below it reaches i·T". Assumes nothing.
use Prim.Native.Nat.{ℕ, ◌<◌, ◌≤◌}
use mathlib.Core.Path.{◌≡◌}
use mathlib.Core.List.{List}
use lib.ListN.{length}
use Rattle.rules.specs.Refusals.{first_of}
use Rattle.rules.specs.Demands.{Exactly}
use Rattle.requests.specs.Parts.{parts_tests, parts_along, PartsDemand, split, IsSplit}
use Rattle.laws.proofs.Exactly.{exactly, untouched}
use Rattle.parts_laws.proofs.Accepted.{accepted, answered}
use Rattle.parts_laws.proofs.FairParts.{fair_parts}
use Rattle.parts_laws.proofs.Sorting.{order_list}
use Rattle.parts_laws.proofs.Splits.{split_is}

module _ (n : ℕ) (ix ws parts order : List ℕ) where
  tested : Exactly (parts_tests n ix ws parts order) (parts_along n ix ws parts order).number
  unfolding parts_along parts_tests
  tested = exactly (parts_tests n ix ws parts order)

  left : 0 < (parts_along n ix ws parts order).number → ((parts_along n ix ws parts order).parts ≡ parts) × ((parts_along n ix ws parts order).order ≡ order)
  unfolding parts_along
  left l = (untouched _ _ parts l, untouched _ _ order l)

  -- the number of the tests is the call's
  passed : (parts_along n ix ws parts order).number ≡ 0 → first_of (parts_tests n ix ws parts order) ≡ 0
  unfolding parts_along
  passed e = e

  pub parts_demand : PartsDemand n ix ws parts order (parts_along n ix ws parts order)
  parts_demand = record {
    number = tested;
    untouched = left;
    fair = λ e. rw (answered n ix ws parts order (passed e)) (fair_parts n ix ws (accepted n ix ws parts order (passed e)).some);
    ordered = λ e. rw (answered n ix ws parts order (passed e)) (order_list ix);
  }

pub parts_splits : (n : ℕ) (ix ws : List ℕ) (i : ℕ) → i ≤ n → 0 < length ix → IsSplit n ix ws i (split n ix ws i)
parts_splits n ix ws i = split_is n ix ws i
