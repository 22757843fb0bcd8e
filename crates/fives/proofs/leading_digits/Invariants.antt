-- After each turn the parts are those of the number times 2 ^ shift, over the same bases.
use Rattle.std.proofs.Common.{◌≡◌, ◌-◌, ◌*◌, ◌^◌, ◌<◌}
use Rattle.fives.specs.Fives.{number_of}
use Rattle.fives.proofs.leading_digits.Given as goal

abbrev pub invariant-loop-parts : goal.invariant-loop-parts
invariant-loop-parts l = record {
  number : number_of l.parts ≡ number_of l.fn.number * 2 ^ l.shift;
  some : 0 < number_of l.fn.number;
  short : l.shift < 200;
  bases : l.parts.second * l.parts.first ≡ l.fn.number.second * l.fn.number.first;
}

abbrev pub decreases-loop-parts : goal.decreases-loop-parts
decreases-loop-parts l = 200 - l.shift
