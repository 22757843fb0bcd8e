-- `encode_2d_with` meets its contract: the walk over the cell's z-order meets its quadrants.
-- Assumes nothing.
use Rattle.std.proofs.Common.{ap, ◌∙◌, sym, Ok}
use Rattle.rules.specs.Curve.{quadrant, plane, cell2, index_of}
use Rattle.curve_laws.proofs.RoundTrip.{encode_same}
use Rattle.curve_laws.proofs.Refusals.{passed_2d, encode2_index}
use Rattle.encoding_2d.proofs.encode_2d_with.Goals as goal

pub zorder_2d-requires : goal.zorder_2d-requires
zorder_2d-requires c = let p = passed_2d _ _ _ _ _ (sym c.tested.ensures ∙ c.in_ok-tested.was) in
    (p.order_at_most, p.x_below, p.y_below)

pub walk_2d-requires : goal.walk_2d-requires
walk_2d-requires c = let p = passed_2d _ _ _ _ _ (sym c.tested.ensures ∙ c.in_ok-tested.was) in (c.requires, p.order_at_most)

pub returns : goal.returns
unfolding index_of
returns c = let a = c.args in
    let p = passed_2d _ _ _ _ _ (sym c.tested.ensures ∙ c.in_ok-tested.was) in
    ap Ok (c.walk_2d.ensures ∙ encode_same plane a.order 0 _ (λ j. quadrant 2 j (cell2 a.x a.y)) c.zorder_2d.ensures.at)
    ∙ sym (encode2_index a.x a.y a.order p.order_at_most p.x_below p.y_below)
