-- What is rounded rounds to itself. Assumes nothing.
use Prim.Native.Nat.{ℕ, ◌+◌, ◌-◌, ◌*◌, ◌/◌, ◌%◌, ◌^◌, ◌≤◌, ◌<◌, compare}
use mathlib.Core.Path.{◌≡◌, refl, sym, ap, ◌∙◌, subst}
use mathlib.Core.Logic.{◌⊎◌, inl, inr}
use mathlib.Core.Bool.{Bool}
use native.Mathlib.Nat.{le_trans, eq-or-lt_of_le, one-mul, mul_right_comm, mul_assoc, mul-pos, div-div-eq-div-mul}
use lib.Dec.{lit<}
use lib.Pow.{pow-add, pow_pos}
use lib.Ieee.{Float, Format, binary32, binary64, prec, low, size, round}
use lib.Ieee.Exact.{HasValue, units_val, round_exact}
use lib.Ieee.Fits.{round_is, round-fits, kept-lt, nearest-le}
use lib.Ieee.Nearest.{closest, closest_same, div_same}
use lib.Ieee.Order.{drop, kept}
use lib.Ieee.Scale.{grid, overflow}
use Rattle.ratio_laws.proofs.OneValue.{one_value}

pub kept-le : (p n den : ℕ) → kept p n den ≤ 2 ^ p
kept-le p n den =
    let k = drop p n den in
    let u = den * 2 ^ k in
    le_trans (nearest-le (n / u) (compare (n % u * 2) u)) (subst (λ (x : ℕ). x < 2 ^ p) (div-div-eq-div-mul n den (2 ^ k)) (kept-lt p (n / den)))

pub one_below : (f : Format) → 1 < 2 ^ prec f
one_below binary32 = lit< tt
one_below binary64 = lit< tt

exactly : (f : Format) (s : Bool) (q k : ℕ) → q ≤ 2 ^ prec f → q * 2 ^ k < overflow f → HasValue (round f s (q * 2 ^ k) (2 ^ low f)) s (q * 2 ^ k) (2 ^ low f)
exactly f s q k h l = go (eq-or-lt_of_le h)
  where
    go : (q ≡ 2 ^ prec f) ⊎ (q < 2 ^ prec f) → HasValue (round f s (q * 2 ^ k) (2 ^ low f)) s (q * 2 ^ k) (2 ^ low f)
    go (inr small) = round_exact f s (q * 2 ^ k) (2 ^ low f) q k (pow_pos (low f)) small l refl
    go (inl e) =
        let is : q * 2 ^ k ≡ 1 * 2 ^ (prec f + k) = ap (λ (z : ℕ). z * 2 ^ k) e ∙ sym (pow-add 2 (prec f) k) ∙ sym (one-mul (2 ^ (prec f + k))) in
        round_exact f s (q * 2 ^ k) (2 ^ low f) 1 (prec f + k) (pow_pos (low f)) (one_below f) (subst (λ (z : ℕ). z < overflow f) is l) (ap (λ (z : ℕ). z * 2 ^ low f) is)

-- the value that a fraction is rounded to
pub rounded : (f : Format) (s : Bool) (a c : ℕ) → grid f a c < overflow f → HasValue (round f s a c) s (grid f a c) (2 ^ low f)
rounded f s a c h = subst (λ (z : Float). HasValue z s (grid f a c) (2 ^ low f)) (sym (round_is f s a c)) (units_val f s (kept (prec f) (a * 2 ^ low f) c) (drop (prec f) (a * 2 ^ low f) c) h)

pub again : (f : Format) (s : Bool) (a c : ℕ) → grid f a c < overflow f → round f s (grid f a c) (2 ^ low f) ≡ round f s a c
again f s a c h =
    one_value f s (grid f a c) (2 ^ low f) (round f s (grid f a c) (2 ^ low f)) (round f s a c) (pow_pos (low f)) (round-fits f s (grid f a c) (2 ^ low f)) (round-fits f s a c)
    (exactly f s (kept (prec f) (a * 2 ^ low f) c) (drop (prec f) (a * 2 ^ low f) c) (kept-le (prec f) (a * 2 ^ low f) c) h)
    (rounded f s a c h)

-- one fraction, written in two ways
pub grid_same : (f : Format) (a b c d : ℕ) → 0 < b → 0 < d → a * d ≡ c * b → grid f a b ≡ grid f c d
grid_same f a b c d B D e =
    let l = 2 ^ low f in
    let p = prec f in
    let x : a * l * d ≡ c * l * b = mul_right_comm a l d ∙ ap (λ (z : ℕ). z * l) e ∙ mul_right_comm c b l in
    let k : drop p (a * l) b ≡ drop p (c * l) d = ap (λ (z : ℕ). size z - p) (div_same (a * l) b (c * l) d B D x) in
    let j = drop p (c * l) d in
    let y : a * l * (d * 2 ^ j) ≡ c * l * (b * 2 ^ j) = sym (mul_assoc (a * l) d (2 ^ j)) ∙ ap (λ (z : ℕ). z * 2 ^ j) x ∙ mul_assoc (c * l) b (2 ^ j) in
    ap (λ (z : ℕ). closest (a * l) (b * 2 ^ z) * 2 ^ z) k
    ∙ ap (λ (z : ℕ). z * 2 ^ j) (closest_same (a * l) (b * 2 ^ j) (c * l) (d * 2 ^ j) (mul-pos B (pow_pos j)) (mul-pos D (pow_pos j)) y)
