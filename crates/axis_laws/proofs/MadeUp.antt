-- An axis record is not made up exactly if making it anew gives it back: low, high and order are copied, and the made factor is no NaN and fits an
-- f64, so its bits tell it. Assumes nothing.
use mathlib.Core.Path.{◌≡◌, refl, sym, ap, ◌∙◌, subst}
use Prim.Native.Nat.{ℕ}
use mathlib.Core.Bool.{Bool, true, false, not, cond, true≢false}
use Rattle.std.specs.Prelude.{Result, Ok, Err}
use lib.Dec.{T, eqb, eqb→eq}
use borrow.Author.Tests.{not-false, eq-eqb}
use lib.Ieee.{Float, nan, inf, fin, binary64, fits, is_nan, to_bits, of_bits, eq}
use lib.Ieee.Bits.{of_bits-to_bits}
use Rattle.rules.specs.Refusals.{first_of, nought, width, axis_tests}
use Rattle.rules.specs.Axis.{factor_of, axis_of, make_axis, low_of, high_of, order_of, same_bits, is_anew, made_up}
use Rattle.rules.specs.declared.Axis.{Axis}
use Rattle.rules.specs.declared.Axis.TheVariants.{Flat, Sloped}
use Rattle.rules.specs.declared.refusal.Refusal.{Refusal}
use Rattle.laws.proofs.Readings.{answered_by}
use Rattle.axis_laws.proofs.SubMono.{and_r}
use Rattle.axis_laws.proofs.MulMono.{nonneg}
use Rattle.axis_laws.proofs.AtMostOneStep.{factor_ends}

-- an answer that is an axis
pub answered : (low high : Float) (order : ℕ) (a : Axis) → make_axis low high order ≡ Ok a → (first_of (axis_tests low high order) ≡ 0) × (axis_of low high order ≡ a)
unfolding make_axis
answered low high order a e = answered_by (axis_tests low high order) (axis_of low high order) a e

-- a made axis is flat where its width is 0, else it has the factor
pub made_flat : (low high : Float) (order : ℕ) {l h : Float} {o : ℕ} → axis_of low high order ≡ Flat l h o → (axis_of low high order ≡ Flat low high order) × (eq (width low high) nought ≡ true)
unfolding axis_of
made_flat low high order {l} {h} {o} e = go (eq (width low high) nought) e
  where
    go : (b : Bool) → cond b (Flat low high order) (Sloped low high order (factor_of low high order)) ≡ Flat l h o
        → (cond b (Flat low high order) (Sloped low high order (factor_of low high order)) ≡ Flat low high order) × (b ≡ true)
    go true e = (refl, refl)
    go false e = cc

pub made_sloped : (low high : Float) (order : ℕ) {l h : Float} {o : ℕ} {f : Float} → axis_of low high order ≡ Sloped l h o f
    → (axis_of low high order ≡ Sloped low high order f) × (eq (width low high) nought ≡ false) × (f ≡ factor_of low high order)
unfolding axis_of
made_sloped low high order {l} {h} {o} {f} e = go (eq (width low high) nought) e
  where
    go : (b : Bool) → cond b (Flat low high order) (Sloped low high order (factor_of low high order)) ≡ Sloped l h o f
        → (cond b (Flat low high order) (Sloped low high order (factor_of low high order)) ≡ Sloped low high order f) × (b ≡ false) × (f ≡ factor_of low high order)
    go true e = cc
    go false e = (cc, refl, cc)

-- THE BITS

nonneg_no_nan : (x : Float) → T (nonneg x) → is_nan x ≡ false
unfolding is_nan
nonneg_no_nan nan p = absurd p
nonneg_no_nan (inf s) p = absurd p
nonneg_no_nan (fin s m d) p = refl

pub made_no_nan : (low high : Float) (order : ℕ) {l h : Float} {o : ℕ} {f : Float} → make_axis low high order ≡ Ok (Sloped l h o f) → is_nan f ≡ false
made_no_nan low high order {l} {h} {o} {f} e =
    let r = answered low high order (Sloped l h o f) e in
    let k = made_sloped low high order r.1 in
    nonneg_no_nan f (subst (λ (x : Float). T (nonneg x)) (sym k.2) (factor_ends low high order r.0 k.1).0)

same_itself : (x : Float) → is_nan x ≡ false → same_bits x x ≡ true
unfolding same_bits
same_itself x e = rw (e, eq-eqb (to_bits binary64 x) (to_bits binary64 x) refl)

same_value : (x y : Float) → T (fits binary64 x) → T (fits binary64 y) → same_bits x y ≡ true → x ≡ y
unfolding same_bits
same_value x y p q e =
    let b : to_bits binary64 x ≡ to_bits binary64 y = eqb→eq _ _ (and_r (not (is_nan x)) (eqb (to_bits binary64 x) (to_bits binary64 y)) (subst T (sym e) tt)) in
    sym (of_bits-to_bits binary64 x p) ∙ ap (of_bits binary64) b ∙ of_bits-to_bits binary64 y q

-- THE LAW

-- a record of f64s
abbrev pub in_format : Axis → Bool
in_format (Flat low high order) = true
in_format (Sloped low high order factor) = fits binary64 factor

pub made_anew : (a : Axis) → T (in_format a) → made_up a ≡ false → make_axis (low_of a) (high_of a) (order_of a) ≡ Ok a
unfolding made_up is_anew
made_anew (Flat low high order) i e = go (make_axis low high order) refl (not-false _ e)
  where
    go : (m : Result Axis Refusal) → make_axis low high order ≡ m → is_anew m (Flat low high order) ≡ true → make_axis low high order ≡ Ok (Flat low high order)
    go (Ok (Flat l h o)) p q = let k = (answered low high order (Flat l h o) p).1 in p ∙ ap Ok (sym k ∙ (made_flat low high order k).0)
    go (Ok (Sloped l h o f)) p q = absurd (true≢false (sym q))
    go (Err r) p q = absurd (true≢false (sym q))
made_anew (Sloped low high order factor) i e = go (make_axis low high order) refl (not-false _ e)
  where
    go : (m : Result Axis Refusal) → make_axis low high order ≡ m → is_anew m (Sloped low high order factor) ≡ true → make_axis low high order ≡ Ok (Sloped low high order factor)
    go (Ok (Flat l h o)) p q = absurd (true≢false (sym q))
    go (Err r) p q = absurd (true≢false (sym q))
    go (Ok (Sloped l h o f)) p q =
        let r = answered low high order (Sloped l h o f) p in
        let k = made_sloped low high order r.1 in
        let j : T (fits binary64 f) = subst (λ (x : Float). T (fits binary64 x)) (sym k.2) (factor_ends low high order r.0 k.1).2 in
        p ∙ ap Ok (sym r.1 ∙ k.0 ∙ ap (Sloped low high order) (sym (same_value factor f i j q)))

pub not_made_up : (a : Axis) → make_axis (low_of a) (high_of a) (order_of a) ≡ Ok a → made_up a ≡ false
unfolding made_up is_anew
not_made_up (Flat low high order) e = rw e
not_made_up (Sloped low high order factor) e = rw (e, same_itself factor (made_no_nan low high order e))
