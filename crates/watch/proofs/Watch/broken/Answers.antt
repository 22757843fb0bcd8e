-- The heaviest part and the lightest answer for all.
use Rattle.std.proofs.Common.{ℕ, ◌^◌, ◌<◌, ◌∙◌, ap, sym, List, arith}
use mathlib.Core.Bool.{not}
use Rattle.requests.specs.Order.{at}
use Rattle.bounds.specs.Small.{top_sum}
use Rattle.lightest.specs.Tree.{root}
use Rattle.lightest.proofs.Root.{root_below, root_least}
use Rattle.replay_laws.proofs.Bounds.{answer_for_all}
use Rattle.replay_laws.proofs.Sums.{few_parts}
use Rattle.watch.specs.Watched.{Watched}
use Rattle.watch.proofs.Watch.broken.Goals as goal

-- the lightest part is no heavier than the heaviest, which is small
least-small : (depth : ℕ) {parts tree : List ℕ} {most : ℕ} → Watched (2 ^ depth) parts most tree → at parts most < top_sum → at parts (root tree) < top_sum
least-small depth w h = omega (arith, root_least depth w.lightest _ w.heaviest.inside)

pub bounds-parts-self : goal.bounds-parts-self
bounds-parts-self c = omega (arith, few_parts c.args.measure.small.depth, c.requires.watched.heaviest.inside)

pub offset_bounds-parts-least : goal.offset_bounds-parts-least
offset_bounds-parts-least c =
    let m = c.args.measure in omega (arith, few_parts m.small.depth, root_below m.depth c.requires.watched.lightest, c.lightest-least.ensures)

pub bounds-parts-least : goal.bounds-parts-least
bounds-parts-least c =
    let m = c.args.measure in omega (arith, few_parts m.small.depth, root_below m.depth c.requires.watched.lightest, c.lightest-least.ensures)

pub keeps-requires : goal.keeps-requires
keeps-requires c =
    let l = c.requires.most_bound in
    (l, rw (← c.lightest-least.ensures) at (least-small c.args.measure.depth c.requires.watched l))

pub returns : goal.returns
returns c =
    let m = c.args.measure in
    let w = c.requires.watched in
    ap not c.keeps.ensures
    ∙ (rw (← c.lightest-least.ensures) at
    (sym (answer_for_all m.depth (at c.args.parts.now) m.all m.line w.heaviest.inside (root_below m.depth w.lightest) w.heaviest.top (root_least m.depth w.lightest))))
