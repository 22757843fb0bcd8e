-- There are 2 ^ depth parts.
use Rattle.std.proofs.Common.{arith}
use Rattle.watch.proofs.Followed.{heaviest_first_of}
use Rattle.watch.proofs.Watch.find.Goals as goal

pub returns : goal.returns
returns c = record {
  heaviest = heaviest_first_of _ _ c.leaves_of.ensures.value (omega (arith, c.leaves_of.ensures.few.1)) c.heaviest-self.ensures;
  lightest = c.make.ensures;
}
