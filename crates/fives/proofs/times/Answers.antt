-- Each part keeps its remainder and hands the rest up: the number is what it was, times the factor.
use Rattle.std.proofs.Common.{◌<◌, mod-lt, arith}
use Rattle.fives.proofs.InParts.{middle_times, high_times, times_number}
use Rattle.fives.proofs.times.Goals as goal

pub invariant_of-result : goal.invariant_of-result
invariant_of-result c =
    let p = c.args.parts in
    let parted = p.parted in
    let low_below : 0 < p.first = omega arith in
    let middle_below : 0 < p.second = omega arith in
    record {
      parted =
          record {
            low = mod-lt _ low_below;
            middle = mod-lt _ middle_below;
            high =
                high_times c.args.factor p.high _ p.second c.requires.1 c.requires.0
                (middle_times c.args.factor p.middle p.low p.first p.second c.requires.1 parted.low parted.middle parted.first_few parted.second_few);
            first_few = parted.first_few;
            second_few = parted.second_few;
          };
    }

pub returns-clause-number : goal.returns-clause-number
returns-clause-number c = let p = c.args.parts in times_number c.args.factor p.first p.second p.high p.middle p.low
