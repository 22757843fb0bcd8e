-- After so many cells the sums are those of these alone, but that the heaviest line is not known.
use Rattle.tally_laws.specs.Weighed.{Weighed}
use Rattle.tally_laws.proofs.Start.{first_of}
use Rattle.tallies.proofs.Counting.{AllBut}
use Rattle.tallies.proofs.Tally.add_all.Given as goal

abbrev pub invariant-loop-cell : goal.invariant-loop-cell
invariant-loop-cell l = Weighed l.sides (first_of l.weights l.cell) × AllBut l.sides (first_of l.weights l.cell) l.ids l.self
