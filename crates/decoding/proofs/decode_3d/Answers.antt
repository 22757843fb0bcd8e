-- `decode_3d` meets its contract: the table of inverses is what antt computes of its rule. Assumes nothing.
use Rattle.std.proofs.Common.{refl, arith}
use Rattle.rules.specs.Sums.{pick, list}
use Rattle.rules.specs.Curve.{seek_digit, undo, octant_table, space, decode3}
use Rattle.laws.proofs.Lists.{get_or_list}
use Rattle.curve_laws.specs.Undoes.{undo_entry, cell_of}
use Rattle.decoding.proofs.decode_3d.Goals as goal

pub decode-requires : goal.decode-requires
unfolding pick list octant_table space seek_digit undo undo_entry
decode-requires c =
    (omega arith, ((omega arith, omega arith), (record { entries = refl; at = λ i h. get_or_list (undo_entry space) 96 i 0 h }, (omega arith, omega arith))))

pub returns : goal.returns
unfolding decode3 cell_of
returns c = c.decode.ensures
