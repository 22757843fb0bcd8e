-- The number of a replay from that of its halving: edition 1 is refused too, and test 5 is of more slices.
use Rattle.std.specs.Prelude.{ℕ, Bool, ◌&&◌, ◌||◌, eqb}
use Rattle.rules.specs.Sums.{pick}
use Rattle.rules.specs.Refusals.{refuse}
use Rattle.requests.specs.Replay.{not_edition2}

-- 5 where the events' slices are off and no test before it passes: it comes before 11
unfoldable pub lengths_too : Bool → ℕ → ℕ
lengths_too off n = pick (off && (eqb n 0 || eqb n 11)) 5 n

unfoldable pub with_events : ℕ → ℕ → Bool → ℕ
with_events edition n off = refuse (not_edition2 edition) 13 (lengths_too off n)
