-- A turn makes the number 512 times as large; at the end the highest part stands for it, odd where something is left below.
use Rattle.std.proofs.Common.{refl, inl, inr, arith}
use Rattle.fives.specs.Fives.{number_of}
use Rattle.fives.proofs.InParts.{parts_below, shift_below, nine_more, left_some, left_none}
use Rattle.fives.proofs.LeadingStands.{leading_stands}
use Rattle.fives.proofs.leading_digits.Goals as goal

pub loop-parts-preserved : goal.loop-parts-preserved
loop-parts-preserved c =
    let was = c.loop-parts in
    let parted = was.parts.parted in
    let whole = number_of c.args.number in
    let below = parts_below was.parts.first was.parts.second was.parts.high was.parts.middle was.parts.low parted.low parted.middle (omega arith) parted.first_few parted.second_few in
    let short = shift_below whole was.shift _ was.invariant.some was.invariant.number below in
    record {
      number = nine_more whole was.shift _ _ was.invariant.number c.times-parts.ensures.number;
      some = was.invariant.some;
      short = omega arith;
      bases = rw (c.times-parts.ensures.bases.0, c.times-parts.ensures.bases.1) was.invariant.bases;
    }

pub returns-then-parts-gt0 : goal.returns-then-parts-gt0
returns-then-parts-gt0 c =
    let done = c.loop-parts in
    leading_stands _ _ done.parts _ done.invariant.bases done.invariant.number (omega arith) (omega arith) done.invariant.short
    (inr (left_some done.parts.middle done.parts.first done.parts.low done.parts.parted.low (omega arith), refl))

pub returns : goal.returns
returns c =
    let done = c.loop-parts in
    leading_stands _ _ done.parts _ done.invariant.bases done.invariant.number (omega arith) done.parts.parted.high done.invariant.short
    (inl (left_none done.parts.middle done.parts.first done.parts.low (omega arith), refl))
