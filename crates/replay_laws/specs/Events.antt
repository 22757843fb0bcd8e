-- What one event does.
use Rattle.std.specs.Prelude.{ℕ, Bool, ◌&&◌, List, eqb}
use Rattle.rules.specs.Refusals.{slice_by}
use Rattle.rules.specs.Halving.{Halving}
use Rattle.requests.specs.Order.{at}
use Rattle.requests.specs.Replay.{Night, answer_to, weights_at, broken, ids_at}
use Rattle.tally_laws.specs.Weighed.{heavier}

-- the weights after an event: a refused one leaves what stood there
unfoldable pub added : List ℕ → ℕ → ℕ → List ℕ
added ws cell amount = slice_by (answer_to ws cell amount) (heavier ws cell amount) ws

-- whether the grid is halved afresh after it
unfoldable pub anew_after : Halving → List ℕ → ℕ → ℕ → List ℕ → Bool
anew_after h ws cell amount ids = eqb (answer_to ws cell amount) 0 && broken h (added ws cell amount) ids

-- and after event n of a night
abbrev pub anew_at : Halving → Night → ℕ → Bool
anew_at h t n = anew_after h (weights_at t n) (at t.cells n) (at t.amounts n) (ids_at h t n)
