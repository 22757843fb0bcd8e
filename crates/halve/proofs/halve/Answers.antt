-- `halve` meets its contract: the whole grid is a sound part, and the rule's splits give the rule's ids.
use Rattle.std.proofs.Common.{◌≡◌, ◌∙◌}
use Rattle.rules.specs.Halving.{splits_by}
use Rattle.halving_laws.proofs.Accepted.{no_side_unfit}
use Rattle.blocks.specs.Blocks.{rule_of}
use Rattle.blocks.proofs.AsBlocks.{sides_fit}
use Rattle.halve.proofs.Whole.{whole_tree, first_axis, ids_long, readable, whole_sound, root_places}
use Rattle.halve.proofs.halve.Goals as goal

pub invariant_of-cutting : goal.invariant_of-cutting
invariant_of-cutting c = record { readable = readable c.args.halving c.requires }

pub recurse-requires-clause-sound : goal.recurse-requires-clause-sound
recurse-requires-clause-sound c = (first_axis c.args.halving c.requires, rw (c.weight.ensures, c.whole-block.ensures) (whole_sound c.args.halving c.requires))

pub recurse-requires-clause-places : goal.recurse-requires-clause-places
recurse-requires-clause-places c = root_places c.args.halving c.requires c.fill.ensures.len

pub write_ids-requires-clause-places : goal.write_ids-requires-clause-places
write_ids-requires-clause-places c = root_places c.args.halving c.requires (c.recurse.auto.splits ∙ c.fill.ensures.len)

pub write_ids-requires-clause-sides : goal.write_ids-requires-clause-sides
write_ids-requires-clause-sides c = let fit = sides_fit c.args.halving.grid (no_side_unfit c.requires) in (fit.0.0, fit.1.0)

pub write_ids-requires-clause-ids_len : goal.write_ids-requires-clause-ids_len
write_ids-requires-clause-ids_len c = ids_long c.args.halving c.requires

pub returns-clause-splits : goal.returns-clause-splits
returns-clause-splits c =
    c.recurse.ensures ∙ rw (c.whole-block.ensures, c.fill.ensures.after (λ y e. e)) (whole_tree c.args.halving _ c.args.weights.now c.requires.splits_long)

pub returns-clause-ids : goal.returns-clause-ids
returns-clause-ids c =
    let cuts : c.recurse.new.splits ≡ splits_by (rule_of c.args.halving) c.args.weights.now =
    c.recurse.ensures ∙ rw (c.whole-block.ensures, c.fill.ensures.after (λ y e. e)) (whole_tree c.args.halving _ c.args.weights.now c.requires.splits_long) in
    c.write_ids.ensures ∙ rw cuts
