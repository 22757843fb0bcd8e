-- `encode_3d` meets its contract: the walk over the cell's z-order meets its octants.
-- Assumes nothing.
use Rattle.std.proofs.Common.{refl, ap, ◌∙◌, sym, Ok}
use Rattle.rules.specs.Curve.{quadrant, octant_table, space, cell3, index_of}
use Rattle.curve_laws.proofs.RoundTrip.{encode_same}
use Rattle.curve_laws.proofs.Refusals.{passed_3d, encode3_index}
use Rattle.encoding_3d.proofs.encode_3d.Goals as goal

pub zorder_3d-requires : goal.zorder_3d-requires
zorder_3d-requires c = let p = passed_3d _ _ _ _ _ _ (sym c.tested.ensures ∙ c.in_ok-tested.was) in
    (p.order_at_most, p.x_below, p.y_below, p.z_below)

pub walk_3d-requires : goal.walk_3d-requires
unfolding octant_table
walk_3d-requires c = (refl, (passed_3d _ _ _ _ _ _ (sym c.tested.ensures ∙ c.in_ok-tested.was)).order_at_most)

pub returns : goal.returns
unfolding index_of
returns c = let a = c.args in
    let p = passed_3d _ _ _ _ _ _ (sym c.tested.ensures ∙ c.in_ok-tested.was) in
    ap Ok (c.walk_3d.ensures ∙ encode_same space a.order 0 _ (λ j. quadrant 3 j (cell3 a.x a.y a.z)) c.zorder_3d.ensures.at)
    ∙ sym (encode3_index a.x a.y a.z a.order p.order_at_most p.x_below p.y_below p.z_below)
