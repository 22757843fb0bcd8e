-- It is one turn of the deposit. Assumes nothing.
use Rattle.std.proofs.Common.{refl, ap, ◌∙◌, arith}
use lib.Bits.{bit_or}
use Rattle.curve_laws.proofs.Or.{or_assoc}
use Rattle.curve_laws.proofs.Spread.{spread_turn}
use Rattle.spread.specs.Depositing.{comes_to}
use Rattle.spread.proofs.place.Goals as goal

pub returns : goal.returns
unfolding comes_to
returns c =
    let d = c.args.d in
    let n = c.wrapping_sub_u64 in
    let l = c.wrapping_sub_u64-2 in (
      or_assoc d.result _ _
          ∙ ap (bit_or d.result)
          (spread_turn d.srcbit d.bitmask n.result l.result (omega arith) (omega arith) n.ensures.value (omega arith) l.ensures.value),
      refl,
    )
