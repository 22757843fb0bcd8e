-- The order has a place for each point, and at each place a point.
use Rattle.std.proofs.Common.{ℕ, ◌<◌, ◌≡◌, List, length, ap, ◌∙◌, arith}
use Rattle.rules.specs.Sums.{total}
use Rattle.requests.specs.Order.{at, order_of}
use Rattle.requests.specs.Parts.{weight_all}
use Rattle.parts_laws.proofs.Places.{length_order, order_below}
use Rattle.parts_laws.proofs.Passing.{begin, new_part, unchanged, step, finished, all_bound, sum_bound, part_below, weight_light}
use Rattle.shares.proofs.assign.Goals as goal
use Rattle.shares.proofs.assign.Goals.{then-last-index, else-last-index}

as_long : (ix order : List ℕ) → order ≡ order_of ix → length order ≡ length ix
as_long ix order e = ap length e ∙ length_order ix

point-fits : (ix order : List ℕ) → order ≡ order_of ix → (j : ℕ) → j < length ix → at order j < length ix
point-fits ix order e j l = rw e (order_below ix j l)

point-is : (ix order : List ℕ) → order ≡ order_of ix → (j : ℕ) → at order j ≡ at (order_of ix) j
point-is ix order e j = ap (λ (l : List ℕ). at l j) e

all-is : (ix ws : List ℕ) (all : ℕ) → all ≡ total (at ws) (length ws) → length ws ≡ length ix → all ≡ weight_all ix ws
unfolding weight_all
all-is ix ws all e l = e ∙ ap (total (at ws)) l

pub bounds-order-0 : goal.bounds-order-0
bounds-order-0 c = omega (arith, as_long _ _ c.requires.order_value, c.requires.accepted.points)

pub bounds-indices-order : goal.bounds-indices-order
bounds-indices-order c = point-fits _ _ c.requires.order_value 0 c.requires.accepted.points

pub loop-place-init : goal.loop-place-init
loop-place-init c =
    let a = c.args in
    let r = c.requires in
    rw (ap (λ (l : List ℕ). at a.indices.now (at l 0)) r.order_value) (begin a.n a.indices.now a.weights.now a.parts.now r.accepted.points r.parts_len)

pub bounds-indices-point : goal.bounds-indices-point
bounds-indices-point c =
    let o = c.requires.order_value in
    let l : c.loop-place.place-index < length c.args.indices.now = omega (arith, as_long _ _ o) in
    point-fits _ _ o c.loop-place.place-index l

pub advance-k-requires-clause-k_lt_n : goal.advance-k-requires-clause-k_lt_n
advance-k-requires-clause-k_lt_n c = let a = c.requires.accepted in (part_below _ _ _ a c.loop-place.invariant, a.few)

pub advance-k-requires-clause-all_le_top_all : goal.advance-k-requires-clause-all_le_top_all
advance-k-requires-clause-all_le_top_all c =
    let a = c.requires.accepted in
    let l : c.loop-place.place-index < length c.args.indices.now = omega (arith, as_long _ _ c.requires.order_value) in
    (omega (arith, all-is c.args.indices.now _ _ c.weigh-all.ensures a.weights_long, all_bound _ _ _ a), sum_bound _ _ _ a c.loop-place.invariant (omega arith))

pub bounds-parts-point : goal.bounds-parts-point
bounds-parts-point c =
    let o = c.requires.order_value in
    let l : c.loop-place.place-index < length c.args.indices.now = omega (arith, as_long _ _ o) in
    omega (arith, point-fits _ _ o c.loop-place.place-index l, c.loop-place.invariant.long)

pub bounds-weights-point : goal.bounds-weights-point
bounds-weights-point c =
    let o = c.requires.order_value in
    let l : c.loop-place.place-index < length c.args.indices.now = omega (arith, as_long _ _ o) in
    omega (arith, point-fits _ _ o c.loop-place.place-index l, c.requires.accepted.weights_long)

pub overflow_add-sum : goal.overflow_add-sum
overflow_add-sum c =
    let a = c.requires.accepted in
    let v = c.loop-place.invariant in
    let o = c.requires.order_value in
    let l : c.loop-place.place-index < length c.args.indices.now = omega (arith, as_long _ _ o) in
    omega (arith, sum_bound _ _ _ a v (omega arith), rw (← point-is _ _ o c.loop-place.place-index) at (weight_light _ _ _ a v l))

pub loop-place-preserved : goal.loop-place-preserved
loop-place-preserved c =
    let a = c.args in
    let v = c.loop-place.invariant in
    let o = c.requires.order_value in
    let l : c.loop-place.place-index < length a.indices.now = omega (arith, as_long _ _ o) in
    let p = point-is _ _ o c.loop-place.place-index in
    let x = ap (at a.indices.now) p in
    step _ _ _ v l p x (ap (at a.weights.now) p)
    (elim c.if-last-index.branch [
      | then-last-index w ↦ rw w.k-is (new_part _ _ _ v l x (all-is _ _ _ c.weigh-all.ensures c.requires.accepted.weights_long) w.if-last-index.true w.advance-k.ensures)
      | else-last-index w ↦ rw w.k-is (unchanged _ _ _ v l (omega (arith, x, w.if-last-index.false)))
    ])

pub returns : goal.returns
returns c = finished _ _ _ c.loop-place.invariant (omega (arith, as_long _ _ c.requires.order_value))
