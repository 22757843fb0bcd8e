-- `decode_2d` meets its contract: the table of inverses is what antt computes of its rule. Assumes nothing.
use Rattle.std.proofs.Common.{refl, arith}
use Rattle.rules.specs.Sums.{pick, list}
use Rattle.rules.specs.Curve.{seek_digit, undo, digit_table, next_table, plane, decode2}
use Rattle.laws.proofs.Lists.{get_or_list}
use Rattle.curve_laws.specs.Undoes.{undo_entry, cell_of}
use Rattle.decoding.proofs.decode_2d.Goals as goal

pub decode-requires : goal.decode-requires
unfolding pick list digit_table next_table plane seek_digit undo undo_entry
decode-requires c =
    (omega arith, ((omega arith, omega arith), (record { entries = refl; at = λ i h. get_or_list (undo_entry plane) 16 i 0 h }, (omega arith, omega arith))))

pub returns : goal.returns
unfolding decode2 cell_of
returns c = c.decode.ensures
