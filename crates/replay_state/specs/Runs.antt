-- What the running machine knows: the sums of the weights and ids at hand, and the heaviest and the lightest part.
use Rattle.std.specs.Prelude.{ℕ, ◌^◌, List}
use Rattle.rules.specs.Halving.{Halving}
use Rattle.tallies.specs.Sums.{Sums}
use Rattle.watch.specs.Watched.{Watched}
use Rattle.replay_state.specs.declared.Running.{Running}

-- of the ids of a halving
pub record Runs (h : Halving) (ws ids : List ℕ) (r : Running) : Type 0 where
  pub sums : Sums h.sides ws ids r.tally
  pub watched : Watched (2 ^ h.depth) r.tally.parts r.watch.most r.watch.tree
