-- The ids of a night are not those of its pieces: two cells without weight that get 1 each share a part, for no bound is broken, and a piece
-- that begins behind them parts them. antt computes both. Assumes nothing.
use mathlib.Core.Bool.{◌&&◌}
use mathlib.Core.List.{[], ◌∷◌}
use lib.Dec.{T}
use Rattle.rules.specs.Sums.{pick, any, total, top, list}
use Rattle.rules.specs.Grid.{cells, coords, whole, inside, edge, side, before, after, all_weight, weight, line, heaviest, heaviest_line}
use Rattle.rules.specs.Halving.{lo_of, hi_of, whole_up, lo_up_of, edition_of, reach, settle, cut_of, cut_at, next_axis, unless_flat, fill, splits_of, turn, walk, id_of, ids_of, Halving, halving2}
use Rattle.rules.specs.Demands.{part_weight}
use Rattle.rules.proofs.NamedCases.{same}
use Rattle.requests.specs.Replay.{Night, night, event_tests, weight_by, weights_by, said_at, weights_at, answer_at, some_broken, broken, halved_at, ids_at}
use Rattle.replay_laws.proofs.Pieces.{second_piece}

-- two cells side by side, cut once between columns, and two events
abbrev pub pair : Halving
pair = halving2 (record { edition = 2; width = 2; height = 1; first = 0; depth = 1 })

abbrev pub each : Night
each = night (0 ∷ 0 ∷ []) (0 ∷ 1 ∷ []) (1 ∷ 1 ∷ [])

pub ids_not_in_pieces : T (same (ids_at pair each 2) (1 ∷ 1 ∷ []) && same (ids_at pair (second_piece each 2) 0) (0 ∷ 1 ∷ []))
unfolding pick any total top list cells coords whole inside edge side before after all_weight weight line heaviest heaviest_line lo_of hi_of whole_up lo_up_of edition_of reach settle cut_of cut_at next_axis unless_flat fill splits_of turn walk id_of ids_of part_weight event_tests weight_by weights_by said_at weights_at answer_at some_broken broken halved_at
ids_not_in_pieces = tt
