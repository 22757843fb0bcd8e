-- `recurse` meets its contract: the splits that it leaves are one step of the rule's tree, and the depth falls.
use Rattle.std.proofs.Common.{◌∙◌, arith}
use native.Mathlib.Nat.{pos_of_ne-zero}
use lib.ListN.{length-set}
use Rattle.rules.specs.Halving.{next_axis}
use Rattle.halving_laws.proofs.Ids.{next_lt}
use Rattle.halving_laws.proofs.Steps.{fill_end, place_here, first_places, second_places, falls_by}
use Rattle.blocks.proofs.AsBlocks.{across_is}
use Rattle.tree.proofs.Steps.{tree_flat, tree_cut}
use Rattle.tree.proofs.+recurse.Goals as goal
use Rattle.tree.proofs.+recurse.Goals.{then-depth-eq0-via-then-depth-eq0, then-depth-eq0-via-else-depth-eq0+then-part-axis-eq0}

pub returns-then-depth-eq0 : goal.returns-then-depth-eq0
returns-then-depth-eq0 t c =
    elim c.then-depth-eq0.branch [
      | then-depth-eq0-via-then-depth-eq0 w ↦ fill_end _ _ _ _ _ _ _ _ w.if-depth-eq0.true
      | then-depth-eq0-via-else-depth-eq0+then-part-axis-eq0 w ↦ tree_flat _ c.requires.sound.1 _ c.requires.sound.0 _ _ _ w.if-part-axis-eq0.true
    ]

pub bounds-splits-node : goal.bounds-splits-node
bounds-splits-node t c = place_here _ _ _ c.if-depth-eq0.false c.requires.places

pub cut-cut-requires-clause-lies : goal.cut-cut-requires-clause-lies
cut-cut-requires-clause-lies t c = c.requires.sound.1.lies

pub cut-cut-requires-clause-some : goal.cut-cut-requires-clause-some
cut-cut-requires-clause-some t c =
    (rw (across_is c.args.axis (omega (arith, c.requires.sound.0, c.args.cutting.now.grid.axes_fit))) (pos_of_ne-zero c.if-part-axis-eq0.false), c.requires.sound.1.few)

pub recurse-requires : goal.recurse-requires
unfolding next_axis
recurse-requires t c = (
  falls_by c.if-depth-eq0.false c.decreases,
  (
    (next_lt _ c.args.axis c.requires.sound.0, (c.cut-cut.ensures.sound c.requires.sound.1 c.requires.sound.0).0),
    rw (length-set c.args.splits.now) (first_places c.requires.places c.if-depth-eq0.false),
  ),
)

pub recurse-requires-2 : goal.recurse-requires-2
unfolding next_axis
recurse-requires-2 t c = (
  falls_by c.if-depth-eq0.false c.decreases,
  (
    (next_lt _ c.args.axis c.requires.sound.0, (c.cut-cut.ensures.sound c.requires.sound.1 c.requires.sound.0).1),
    rw (c.recurse.auto.splits ∙ length-set c.args.splits.now _ _) (second_places c.requires.places c.if-depth-eq0.false),
  ),
)

pub returns : goal.returns
unfolding next_axis
returns t c =
    tree_cut _ c.requires.sound.1 _ c.requires.sound.0 _ _ _ _ _ _ c.if-depth-eq0.false (pos_of_ne-zero c.if-part-axis-eq0.false)
    (rw (across_is c.args.axis (omega (arith, c.requires.sound.0, c.args.cutting.now.grid.axes_fit))) at c.cut-cut.ensures.cut) c.recurse.ensures c.recurse-2.ensures
