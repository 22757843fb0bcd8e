-- The depth falls from call to call.
use Rattle.tree.proofs.+recurse.Given as goal

abbrev pub decreases-recurse : goal.decreases-recurse
decreases-recurse l = l.depth
