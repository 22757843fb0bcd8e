-- REQUEST 14/14 of the functions: whatever fits the contract of a call that finds a cell, or indexes points, is at most 1 off on every axis that is
-- not flat, and exact where the place is clear of borders. A point's cell is the one that its index decodes to. Assumes nothing.
use Prim.Native.Nat.{ℕ}
use mathlib.Core.Path.{◌≡◌, refl, sym, ◌∙◌, subst}
use native.Mathlib.Omega.{arith}
use mathlib.Core.Bool.{true}
use mathlib.Core.List.{List, [], ◌∷◌}
use lib.Dec.{T}
use lib.Ieee.{Float, binary64, fits}
use borrow.Fn.Kinds.{GoodsP, ParamKind}
use Rattle.std.specs.Prelude.{Result, Ok, Err}
use Rattle.rules.specs.Refusals.{first_of, axis_tests, number_in, read_cell}
use Rattle.rules.specs.Curve.{default_order}
use Rattle.rules.specs.Axis.{axis_of, make_axis, low_of, high_of, made_up, cell_on, cell_of}
use Rattle.rules.specs.declared.Axis.{Axis}
use Rattle.rules.specs.declared.Axis.TheVariants.{Flat, Sloped}
use Rattle.rules.specs.declared.refusal.Refusal.{Refusal}
use Rattle.requests.specs.Scaled.{IsF64}
use Rattle.requests.specs.Rounding.{AxisIsF64, AllF64, NearOn, NearPoints2, NearPoints3, NearKnots2, NearKnots3}
use Rattle.knots_given.specs.Given.{axis_in}
use Rattle.demands.proofs.OneOff.{one_off_f64, one_off_record, one_off_made, one_off_on_2d, one_off_on_3d, one_off_in_2d, one_off_in_3d, one_off_index_2d, one_off_index_3d}
use Rattle.laws.proofs.Fitting.{Fitting}
use Rattle.laws.proofs.Numbers.{number_above_0}
use Rattle.axis_laws.proofs.MadeUp.{answered}
use Rattle.skarvolm.specs.Calls.{between}
use Rattle.axis_out.specs.Cells.{cell_from, cell_between}
use Rattle.axis.proofs.cell.Kinds as cell-kinds
use Rattle.axis.proofs.cell.Reads as cell-reads
use Rattle.knots.proofs.index_2d.Kinds as index-2d-kinds
use Rattle.knots.proofs.index_2d.Reads as index-2d-reads
use Rattle.knots.proofs.index_2d_default.Kinds as index-2d-default-kinds
use Rattle.knots.proofs.index_2d_default.Reads as index-2d-default-reads
use Rattle.knots.proofs.index_3d.Kinds as index-3d-kinds
use Rattle.knots.proofs.index_3d.Reads as index-3d-reads
use Rattle.knots.proofs.index_3d_default.Kinds as index-3d-default-kinds
use Rattle.knots.proofs.index_3d_default.Reads as index-3d-default-reads
use Rattle.knots.proofs.index_2d_on.Kinds as index-2d-on-kinds
use Rattle.knots.proofs.index_2d_on.Reads as index-2d-on-reads
use Rattle.knots.proofs.index_3d_on.Kinds as index-3d-on-kinds
use Rattle.knots.proofs.index_3d_on.Reads as index-3d-on-reads
use Rattle.knots.proofs.index_2d_in.Kinds as index-2d-in-kinds
use Rattle.knots.proofs.index_2d_in.Reads as index-2d-in-reads
use Rattle.knots.proofs.index_3d_in.Kinds as index-3d-in-kinds
use Rattle.knots.proofs.index_3d_in.Reads as index-3d-in-reads
use Rattle.skarvolm.proofs.skarvolm_cell.Kinds as skarvolm-cell-kinds
use Rattle.skarvolm.proofs.skarvolm_cell.Reads as skarvolm-cell-reads
use Rattle.skarvolm.proofs.skarvolm_index_2d_in.Kinds as skarvolm-index-2d-in-kinds
use Rattle.skarvolm.proofs.skarvolm_index_2d_in.Reads as skarvolm-index-2d-in-reads
use Rattle.skarvolm.proofs.skarvolm_index_3d_in.Kinds as skarvolm-index-3d-in-kinds
use Rattle.skarvolm.proofs.skarvolm_index_3d_in.Reads as skarvolm-index-3d-in-reads
use Rattle.skarvolm.proofs.skarvolm_index_2d.Kinds as skarvolm-index-2d-kinds
use Rattle.skarvolm.proofs.skarvolm_index_2d.Reads as skarvolm-index-2d-reads
use Rattle.skarvolm.proofs.skarvolm_index_3d.Kinds as skarvolm-index-3d-kinds
use Rattle.skarvolm.proofs.skarvolm_index_3d.Reads as skarvolm-index-3d-reads

-- WHAT THE TYPES SAY: the kit's `GoodsP` is what is known of a call's arguments by their types, and so that an f64 is one
f64_of : (x : Float) → fits binary64 x ≡ true → IsF64 x
f64_of x e = one_off_f64 x (subst T (sym e) tt)

both : (x y : Float) → fits binary64 x ≡ true → fits binary64 y ≡ true → IsF64 x × IsF64 y
both x y e f = (f64_of x e, f64_of y f)

-- the kind of the first parameter alone; of `cell` it is that of an axis record
abbrev first : List (ParamKind 0) → List (ParamKind 0)
first [] = []
first (p ∷ ps) = p ∷ []

-- of an axis record, whichever call it is handed to
typed_axis : (x : Axis) → GoodsP tt (first cell-kinds.ps) (x, tt) → AxisIsF64 x
typed_axis (Flat low high order) g = let fields = g.0.1.1.1.1 in both _ _ fields.0.1 fields.1.0.1
typed_axis (Sloped low high order factor) g =
    let fields = g.0.1.1.1.1 in
    (f64_of _ fields.0.1, f64_of _ fields.1.0.1, f64_of _ fields.1.1.1.0.1)

-- cell(axis, value)
pub cell_one_off : Fitting cell-kinds.ps cell-kinds.r cell-reads.Post
    (λ κs a y e. GoodsP κs cell-kinds.ps a → (c : ℕ) → y ≡ Ok c → NearOn a.0 a.1.0 c)
cell_one_off κs a y e p typed c h = one_off_record a.0 a.1.0 c (typed_axis a.0 (typed.0, tt)) (f64_of _ typed.1.0.1) (sym p ∙ h)

-- the cell of a value on the axis of low, high and order, where its number is 0
between_near : (low high value : Float) (order : ℕ) → IsF64 low → IsF64 high → IsF64 value
    → (read_cell (cell_between low high order value)).number ≡ 0 → NearOn (axis_of low high order) value (read_cell (cell_between low high order value)).value
unfolding cell_from
between_near low high value order low64 high64 value64 = by_axis (make_axis low high order) refl
  where
    axis : Axis
    axis = axis_of low high order

    by_cell : (found : Result ℕ Refusal) → first_of (axis_tests low high order) ≡ 0 → cell_of axis value ≡ found
        → (read_cell found).number ≡ 0 → NearOn axis value (read_cell found).value
    by_cell (Ok c) made is z = one_off_made low high value order c low64 high64 value64 made is
    by_cell (Err r) made is z = let l = number_above_0 r in absurd (omega arith)

    by_axis : (made : Result Axis Refusal) → make_axis low high order ≡ made → (read_cell (cell_from made value)).number ≡ 0
        → NearOn axis value (read_cell (cell_from made value)).value
    by_axis (Ok a) is z =
        let r = answered low high order a is in
        subst (λ (a : Axis). (read_cell (cell_of a value)).number ≡ 0 → NearOn axis value (read_cell (cell_of a value)).value) r.1
        (by_cell (cell_of axis value) r.0 refl) z
    by_axis (Err r) is z = let l = number_above_0 r in absurd (omega arith)

-- skarvolm_cell(low, high, order, value, cell)
pub skarvolm_cell_one_off : Fitting skarvolm-cell-kinds.ps skarvolm-cell-kinds.r skarvolm-cell-reads.Post
    (λ κs a y e. GoodsP κs skarvolm-cell-kinds.ps a → y ≡ 0 → NearOn (axis_of a.0 a.1.0 a.1.1.0) a.1.1.1.0 e.1.1.1.1.0.now)
skarvolm_cell_one_off κs a y e p typed h =
    rw p.1 (between_near a.0 a.1.0 a.1.1.1.0 a.1.1.0 (f64_of _ typed.0.1) (f64_of _ typed.1.0.1) (f64_of _ typed.1.1.1.0.1) (sym p.0 ∙ h))

-- ALL POINTS: the types say nothing of what a lent slice holds, so that its elements are f64s is said here

-- index_2d(xs, ys, order, indices)
pub index_2d_one_off : Fitting index-2d-kinds.ps index-2d-kinds.r index-2d-reads.Post
    (λ κs a y e. AllF64 a.0.now → AllF64 a.1.0.now → number_in y ≡ 0 → NearKnots2 a.0.now a.1.0.now a.1.1.0 e.1.1.1.0.now)
index_2d_one_off κs a y e p x64 y64 h =
    rw p.1 (one_off_index_2d a.0.now a.1.0.now a.1.1.0 a.1.1.1.0.now x64 y64 (sym p.0 ∙ h))

-- index_2d_default(xs, ys, indices)
pub index_2d_default_one_off : Fitting index-2d-default-kinds.ps index-2d-default-kinds.r index-2d-default-reads.Post
    (λ κs a y e. AllF64 a.0.now → AllF64 a.1.0.now → number_in y ≡ 0 → NearKnots2 a.0.now a.1.0.now default_order e.1.1.0.now)
index_2d_default_one_off κs a y e p x64 y64 h =
    rw p.1 (one_off_index_2d a.0.now a.1.0.now default_order a.1.1.0.now x64 y64 (sym p.0 ∙ h))

-- index_3d(xs, ys, zs, order, indices)
pub index_3d_one_off : Fitting index-3d-kinds.ps index-3d-kinds.r index-3d-reads.Post
    (λ κs a y e. AllF64 a.0.now → AllF64 a.1.0.now → AllF64 a.1.1.0.now → number_in y ≡ 0
    → NearKnots3 a.0.now a.1.0.now a.1.1.0.now a.1.1.1.0 e.1.1.1.1.0.now)
index_3d_one_off κs a y e p x64 y64 z64 h =
    rw p.1 (one_off_index_3d a.0.now a.1.0.now a.1.1.0.now a.1.1.1.0 a.1.1.1.1.0.now x64 y64 z64 (sym p.0 ∙ h))

-- index_3d_default(xs, ys, zs, indices)
pub index_3d_default_one_off : Fitting index-3d-default-kinds.ps index-3d-default-kinds.r index-3d-default-reads.Post
    (λ κs a y e. AllF64 a.0.now → AllF64 a.1.0.now → AllF64 a.1.1.0.now → number_in y ≡ 0
    → NearKnots3 a.0.now a.1.0.now a.1.1.0.now default_order e.1.1.1.0.now)
index_3d_default_one_off κs a y e p x64 y64 z64 h =
    rw p.1 (one_off_index_3d a.0.now a.1.0.now a.1.1.0.now default_order a.1.1.1.0.now x64 y64 z64 (sym p.0 ∙ h))

-- skarvolm_index_2d(xs, ys, order, indices)
pub skarvolm_index_2d_one_off : Fitting skarvolm-index-2d-kinds.ps skarvolm-index-2d-kinds.r skarvolm-index-2d-reads.Post
    (λ κs a y e. AllF64 a.0.now → AllF64 a.1.0.now → y ≡ 0 → NearKnots2 a.0.now a.1.0.now a.1.1.0 e.1.1.1.0.now)
skarvolm_index_2d_one_off κs a y e p x64 y64 h =
    rw p.1 (one_off_index_2d a.0.now a.1.0.now a.1.1.0 a.1.1.1.0.now x64 y64 (sym p.0 ∙ h))

-- skarvolm_index_3d(xs, ys, zs, order, indices)
pub skarvolm_index_3d_one_off : Fitting skarvolm-index-3d-kinds.ps skarvolm-index-3d-kinds.r skarvolm-index-3d-reads.Post
    (λ κs a y e. AllF64 a.0.now → AllF64 a.1.0.now → AllF64 a.1.1.0.now → y ≡ 0
    → NearKnots3 a.0.now a.1.0.now a.1.1.0.now a.1.1.1.0 e.1.1.1.1.0.now)
skarvolm_index_3d_one_off κs a y e p x64 y64 z64 h =
    rw p.1 (one_off_index_3d a.0.now a.1.0.now a.1.1.0.now a.1.1.1.0 a.1.1.1.1.0.now x64 y64 z64 (sym p.0 ∙ h))

-- ON GIVEN AXES, whose f64s the types say

-- index_2d_on(xs, ys, xaxis, yaxis, order, indices)
pub index_2d_on_one_off : Fitting index-2d-on-kinds.ps index-2d-on-kinds.r index-2d-on-reads.Post
    (λ κs a y e. GoodsP κs index-2d-on-kinds.ps a → AllF64 a.0.now → AllF64 a.1.0.now → number_in y ≡ 0
    → NearPoints2 a.0.now a.1.0.now a.1.1.0 a.1.1.1.0 a.1.1.1.1.0 e.1.1.1.1.1.0.now)
index_2d_on_one_off κs a y e p typed x64 y64 h =
    let axes = typed.1.1 in
    rw p.1
    (one_off_on_2d a.0.now a.1.0.now a.1.1.0 a.1.1.1.0 a.1.1.1.1.0 a.1.1.1.1.1.0.now x64 y64
    (typed_axis a.1.1.0 (axes.0, tt)) (typed_axis a.1.1.1.0 (axes.1.0, tt)) (sym p.0 ∙ h))

-- index_3d_on(xs, ys, zs, xaxis, yaxis, zaxis, order, indices)
pub index_3d_on_one_off : Fitting index-3d-on-kinds.ps index-3d-on-kinds.r index-3d-on-reads.Post
    (λ κs a y e. GoodsP κs index-3d-on-kinds.ps a → AllF64 a.0.now → AllF64 a.1.0.now → AllF64 a.1.1.0.now → number_in y ≡ 0
    → let b = a.1.1.1 in NearPoints3 a.0.now a.1.0.now a.1.1.0.now b.0 b.1.0 b.1.1.0 b.1.1.1.0 e.1.1.1.1.1.1.1.0.now)
index_3d_on_one_off κs a y e p typed x64 y64 z64 h =
    let b = a.1.1.1 in
    let axes = typed.1.1.1 in
    rw p.1
    (one_off_on_3d a.0.now a.1.0.now a.1.1.0.now b.0 b.1.0 b.1.1.0 b.1.1.1.0 b.1.1.1.1.0.now x64 y64 z64
    (typed_axis b.0 (axes.0, tt)) (typed_axis b.1.0 (axes.1.0, tt)) (typed_axis b.1.1.0 (axes.1.1.0, tt)) (sym p.0 ∙ h))

-- index_2d_in(xs, ys, xextent, yextent, order, indices)
pub index_2d_in_one_off : Fitting index-2d-in-kinds.ps index-2d-in-kinds.r index-2d-in-reads.Post
    (λ κs a y e. GoodsP κs index-2d-in-kinds.ps a → AllF64 a.0.now → AllF64 a.1.0.now → number_in y ≡ 0
    → let order = a.1.1.1.1.0 in NearPoints2 a.0.now a.1.0.now (axis_in a.1.1.0 order) (axis_in a.1.1.1.0 order) order e.1.1.1.1.1.0.now)
index_2d_in_one_off κs a y e p typed x64 y64 h =
    let x = typed.1.1.0.1.1 in
    let y = typed.1.1.1.0.1.1 in
    rw p.1
    (one_off_in_2d a.0.now a.1.0.now a.1.1.0 a.1.1.1.0 a.1.1.1.1.0 a.1.1.1.1.1.0.now x64 y64
    (both _ _ x.0.1 x.1.0.1) (both _ _ y.0.1 y.1.0.1) (sym p.0 ∙ h))

-- index_3d_in(xs, ys, zs, xextent, yextent, zextent, order, indices)
pub index_3d_in_one_off : Fitting index-3d-in-kinds.ps index-3d-in-kinds.r index-3d-in-reads.Post
    (λ κs a y e. GoodsP κs index-3d-in-kinds.ps a → AllF64 a.0.now → AllF64 a.1.0.now → AllF64 a.1.1.0.now → number_in y ≡ 0
    → let b = a.1.1.1 in let order = b.1.1.1.0 in
    NearPoints3 a.0.now a.1.0.now a.1.1.0.now (axis_in b.0 order) (axis_in b.1.0 order) (axis_in b.1.1.0 order) order e.1.1.1.1.1.1.1.0.now)
index_3d_in_one_off κs a y e p typed x64 y64 z64 h =
    let b = a.1.1.1 in
    let x = typed.1.1.1.0.1.1 in
    let y = typed.1.1.1.1.0.1.1 in
    let z = typed.1.1.1.1.1.0.1.1 in
    rw p.1
    (one_off_in_3d a.0.now a.1.0.now a.1.1.0.now b.0 b.1.0 b.1.1.0 b.1.1.1.0 b.1.1.1.1.0.now x64 y64 z64
    (both _ _ x.0.1 x.1.0.1) (both _ _ y.0.1 y.1.0.1) (both _ _ z.0.1 z.1.0.1) (sym p.0 ∙ h))

-- skarvolm_index_2d_in(xlow, xhigh, ylow, yhigh, xs, ys, order, indices)
pub skarvolm_index_2d_in_one_off : Fitting skarvolm-index-2d-in-kinds.ps skarvolm-index-2d-in-kinds.r skarvolm-index-2d-in-reads.Post
    (λ κs a y e. GoodsP κs skarvolm-index-2d-in-kinds.ps a → let b = a.1.1.1.1 in AllF64 b.0.now → AllF64 b.1.0.now → y ≡ 0
    → let order = b.1.1.0 in
    NearPoints2 b.0.now b.1.0.now (axis_in (between a.0 a.1.0) order) (axis_in (between a.1.1.0 a.1.1.1.0) order) order e.1.1.1.1.1.1.1.0.now)
skarvolm_index_2d_in_one_off κs a y e p typed x64 y64 h =
    let b = a.1.1.1.1 in
    rw p.1
    (one_off_in_2d b.0.now b.1.0.now (between a.0 a.1.0) (between a.1.1.0 a.1.1.1.0) b.1.1.0 b.1.1.1.0.now x64 y64
    (both _ _ typed.0.1 typed.1.0.1) (both _ _ typed.1.1.0.1 typed.1.1.1.0.1) (sym p.0 ∙ h))

-- skarvolm_index_3d_in(xlow, xhigh, ylow, yhigh, zlow, zhigh, xs, ys, zs, order, indices)
pub skarvolm_index_3d_in_one_off : Fitting skarvolm-index-3d-in-kinds.ps skarvolm-index-3d-in-kinds.r skarvolm-index-3d-in-reads.Post
    (λ κs a y e. GoodsP κs skarvolm-index-3d-in-kinds.ps a → let b = a.1.1.1.1.1.1 in AllF64 b.0.now → AllF64 b.1.0.now → AllF64 b.1.1.0.now → y ≡ 0
    → let order = b.1.1.1.0 in
    NearPoints3 b.0.now b.1.0.now b.1.1.0.now (axis_in (between a.0 a.1.0) order) (axis_in (between a.1.1.0 a.1.1.1.0) order)
    (axis_in (between a.1.1.1.1.0 a.1.1.1.1.1.0) order) order e.1.1.1.1.1.1.1.1.1.1.0.now)
skarvolm_index_3d_in_one_off κs a y e p typed x64 y64 z64 h =
    let b = a.1.1.1.1.1.1 in
    let z = typed.1.1.1.1 in
    rw p.1
    (one_off_in_3d b.0.now b.1.0.now b.1.1.0.now (between a.0 a.1.0) (between a.1.1.0 a.1.1.1.0) (between a.1.1.1.1.0 a.1.1.1.1.1.0)
    b.1.1.1.0 b.1.1.1.1.0.now x64 y64 z64
    (both _ _ typed.0.1 typed.1.0.1) (both _ _ typed.1.1.0.1 typed.1.1.1.0.1) (both _ _ z.0.1 z.1.0.1) (sym p.0 ∙ h))
