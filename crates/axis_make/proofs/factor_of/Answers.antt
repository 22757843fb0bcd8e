-- `axis_make::factor_of` meets its contract. The loop's invariant: the descent from f is the descent from the start. Its measure is f's bit pattern.
-- Assumes nothing.
use mathlib.Core.Path.{◌≡◌, refl, sym, ap, ◌∙◌, subst}
use mathlib.Core.Bool.{Bool, true}
use Prim.Native.Nat.{ℕ, ◌≤◌, ◌<◌, ◌-◌, ◌*◌, ◌%◌, ◌^◌}
use native.Mathlib.Nat.{mod-eq_of_lt, lt_of_le_of_lt, one-mul}
use native.Mathlib.Omega.{arith}
use lib.IntN.{pos}
use lib.Dec.{T, lit<, le→leb}
use lib.Pow.{pow_mono}
use lib.Ieee.{Float, binary64, fits, to_bits, div, mul, le, of_int, in_float}
use lib.Ieee.Positive.{positive}
use borrow.Author.Rules.{rules}
use Rattle.rules.specs.Refusals.{top2, width, first_of, axis_tests}
use Rattle.rules.specs.Axis.{next_down, descend, descend_from, factor_of}
use Rattle.axis_laws.proofs.Width.{cells_positive}
use Rattle.axis_laws.proofs.Descent.{again, next_fits, next_pattern, descend_stop, descend_step, start_fits, start_pattern}
use Rattle.axis_laws.proofs.StepPattern.{last}
use Rattle.axis_laws.proofs.Passed.{sound}
use Rattle.axis_laws.proofs.AtMostOneStep.{few as over_32, wide}
use Rattle.axis_make.proofs.factor_of.Goals as goal

few : (low high : Float) (order : ℕ) → first_of (axis_tests low high order) ≡ 0 → order ≤ top2
few low high order none = (sound low high order none).order_fit

-- the code's 1 << order
shifted : (order : ℕ) → order ≤ top2 → 1 * 2 ^ order % 18446744073709551616 ≡ 2 ^ order
shifted order h =
    let l : 2 ^ order ≤ 2 ^ top2 = pow_mono h in
    let s : 2 ^ order < 18446744073709551616 = lt_of_le_of_lt l (lit< tt) in
    ap (λ (z : ℕ). z % 18446744073709551616) (one-mul (2 ^ order)) ∙ mod-eq_of_lt s

-- 2^order counts without a gap
exact : (order : ℕ) → order ≤ top2 → T (in_float binary64 (pos (2 ^ order)))
unfolding in_float
exact order h = let k : order ≤ 53 = omega arith in le→leb (2 ^ order) (2 ^ 53) (pow_mono k)

pub overflow_shl-n : goal.overflow_shl-n
overflow_shl-n c = let h = few _ _ _ c.requires.order_value in search rules

pub int_to_float-n : goal.int_to_float-n
int_to_float-n c =
    let h = few _ _ _ c.requires.order_value in
    subst (λ (z : ℕ). T (in_float binary64 (pos z))) (sym (shifted _ h)) (exact _ h)

pub loop-f-init : goal.loop-f-init
loop-f-init c =
    let h = few _ _ _ c.requires.order_value in
    let n : T (positive (of_int binary64 (pos (1 * 2 ^ c.args.order % 18446744073709551616)))) = subst (λ (z : ℕ). T (positive (of_int binary64 (pos z)))) (sym (shifted _ h)) (cells_positive _ (over_32 _ h)) in
    let w = wide _ _ _ c.requires.order_value c.requires.nought_value in
    record { n_positive = n; width_positive = w; f_fits = start_fits _ _ n w; f_bound = start_pattern _ _ n w; descends = refl }

-- one step down: f is above zero, and the bit pattern falls by one
falls : (n w f g : Float) → T (positive n) → T (positive w) → T (fits binary64 f) → to_bits binary64 f ≤ last → le n (mul binary64 w f) ≡ true → g ≡ next_down f
    → (1 ≤ to_bits binary64 f) × (to_bits binary64 g ≡ to_bits binary64 f - 1)
falls n w f g p q h k t e = let one = again n w f p q h t in (one, ap (to_bits binary64) e ∙ next_pattern f one k)

pub next_down-f-requires : goal.next_down-f-requires
next_down-f-requires c =
    let i = c.loop-f.invariant in
    record { bound = again _ _ _ i.n_positive i.width_positive i.f_fits c.loop-f-test.true; f_bound = i.f_bound }

pub loop-f-smaller : goal.loop-f-smaller
loop-f-smaller c =
    let i = c.loop-f.invariant in
    let f = falls _ _ _ _ i.n_positive i.width_positive i.f_fits i.f_bound c.loop-f-test.true c.next_down-f.ensures in
    omega (arith, f.0, f.1)

pub loop-f-preserved : goal.loop-f-preserved
loop-f-preserved c =
    let i = c.loop-f.invariant in
    let e = c.next_down-f.ensures in
    let f = falls _ _ _ _ i.n_positive i.width_positive i.f_fits i.f_bound c.loop-f-test.true e in
    record {
      n_positive = i.n_positive;
      width_positive = i.width_positive;
      f_fits = subst (λ (x : Float). T (fits binary64 x)) (sym e) (next_fits _);
      f_bound = omega (arith, f.1);
      descends = ap (descend_from _ _) e ∙ sym (descend_step _ _ _ f.0 i.f_bound c.loop-f-test.true) ∙ i.descends;
    }

pub returns : goal.returns
unfolding factor_of
returns c =
    let f = c.loop-f.f in
    let a = c.args in
    let w = width a.low a.high in
    let n = of_int binary64 (pos (1 * 2 ^ a.order % 18446744073709551616)) in
    sym (ap (λ (b : Bool). descend (to_bits binary64 f) b n w f) c.loop-f-test.false ∙ descend_stop (to_bits binary64 f) n w f)
    ∙ c.loop-f.invariant.descends
    ∙ ap (λ (z : ℕ). descend_from (of_int binary64 (pos z)) w (div binary64 (of_int binary64 (pos z)) w)) (shifted a.order (few _ _ _ c.requires.order_value))
