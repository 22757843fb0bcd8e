-- Several levels at once. Assumes nothing.
use Prim.Native.Nat.{ℕ, zero, suc, ◌+◌, ◌*◌, ◌/◌, ◌%◌, ◌^◌, ◌<◌}
use mathlib.Core.Path.{◌≡◌, refl, sym, ap, ap₂, ◌∙◌}
use native.Mathlib.Omega.{arith}
use native.Mathlib.Nat.{zero-add, suc-add, zero-mul, mul_assoc, mul_comm, add-mul, mul-add, add_assoc, mod-lt}
use lib.Arith.{digits_div, digits_mod}
use lib.Dec.{T}
use lib.Pow.{pow-add, pow_pos, high, shr-shr}
use Rattle.rules.specs.Curve.{Machine, level, encode, end, group_entry}
use Rattle.curve_laws.proofs.Parts.{part_mod, below}
use Rattle.curve_laws.proofs.Permutes.{permutes, row}
use Rattle.curve_laws.proofs.RoundTrip.{encode_same, encode_lt}

pub end_same : {d : ℕ} (M : Machine d) (k s : ℕ) (f g : ℕ → ℕ) → ((j : ℕ) → j < k → f j ≡ g j) → end M k s f ≡ end M k s g
unfolding end
end_same M zero s f g h = refl
end_same M (suc k) s f g h =
    ap (λ (q : ℕ). end M k (M.next s q) f) (h k (omega arith)) ∙ end_same M k (M.next s (g k)) f g (λ j p. h j (omega arith))

pub end_lt : {d : ℕ} (M : Machine d) → T (permutes M) → (k s : ℕ) (f : ℕ → ℕ) → s < M.states → ((j : ℕ) → f j < 2 ^ d) → end M k s f < M.states
unfolding end
end_lt M t zero s f p h = p
end_lt M t (suc k) s f p h = end_lt M t k (M.next s (f k)) f (row M t s (f k) p (h k)).next_lt h

-- first the upper a levels, then the lower k
pub encode_add : {d : ℕ} (M : Machine d) (a k s : ℕ) (f : ℕ → ℕ)
    → encode M (a + k) s f ≡ encode M a s (λ j. f (j + k)) * 2 ^ (d * k) + encode M k (end M a s (λ j. f (j + k))) f
unfolding encode end
encode_add {d} M zero k s f =
    ap (λ (n : ℕ). encode M n s f) (zero-add k)
    ∙ sym (ap (λ (x : ℕ). x + encode M k s f) (zero-mul (2 ^ (d * k))) ∙ zero-add (encode M k s f))
encode_add {d} M (suc a) k s f =
    let q : ℕ = f (a + k) in
    let g : ℕ → ℕ = λ j. f (j + k) in
    let D : ℕ = M.digit s q in
    let s' : ℕ = M.next s q in
    let E : ℕ = encode M a s' g in
    let R : ℕ = encode M k (end M a s' g) f in
    let p : D * 2 ^ (d * (a + k)) ≡ D * 2 ^ (d * a) * 2 ^ (d * k) =
    ap (λ (n : ℕ). D * 2 ^ n) (mul-add d a k) ∙ ap (λ (n : ℕ). D * n) (pow-add 2 (d * a) (d * k)) ∙ sym (mul_assoc D (2 ^ (d * a)) (2 ^ (d * k)))
    in
    ap (λ (n : ℕ). encode M n s f) (suc-add a k)
    ∙ ap₂ (λ (x y : ℕ). x + y) p (encode_add M a k s' f)
    ∙ sym (add_assoc (D * 2 ^ (d * a) * 2 ^ (d * k)) (E * 2 ^ (d * k)) R)
    ∙ ap (λ (x : ℕ). x + R) (sym (add-mul (D * 2 ^ (d * a)) E (2 ^ (d * k))))

-- a turn of a loop that takes a levels at once
pub group_turn : {d : ℕ} (M : Machine d) (a k s X : ℕ) (f : ℕ → ℕ)
    → X * 2 ^ (d * (a + k)) + encode M (a + k) s f
    ≡ (X * 2 ^ (d * a) + encode M a s (λ j. f (j + k))) * 2 ^ (d * k) + encode M k (end M a s (λ j. f (j + k))) f
group_turn {d} M a k s X f =
    let E : ℕ = encode M a s (λ j. f (j + k)) in
    let R : ℕ = encode M k (end M a s (λ j. f (j + k))) f in
    let p : X * 2 ^ (d * (a + k)) ≡ X * 2 ^ (d * a) * 2 ^ (d * k) =
    ap (λ (n : ℕ). X * 2 ^ n) (mul-add d a k) ∙ ap (λ (n : ℕ). X * n) (pow-add 2 (d * a) (d * k)) ∙ sym (mul_assoc X (2 ^ (d * a)) (2 ^ (d * k)))
    in
    ap₂ (λ (x y : ℕ). x + y) p (encode_add M a k s f)
    ∙ sym (add_assoc (X * 2 ^ (d * a) * 2 ^ (d * k)) (E * 2 ^ (d * k)) R)
    ∙ ap (λ (x : ℕ). x + R) (sym (add-mul (X * 2 ^ (d * a)) E (2 ^ (d * k))))

-- levels of zero bits below, and the result shifted back
pub padded : {d : ℕ} (M : Machine d) → T (permutes M) → (a k s : ℕ) (f : ℕ → ℕ) → s < M.states → ((j : ℕ) → f j < 2 ^ d)
    → encode M (a + k) s f / 2 ^ (d * k) ≡ encode M a s (λ j. f (j + k))
padded {d} M t a k s f p h =
    let g : ℕ → ℕ = λ j. f (j + k) in
    ap (λ (n : ℕ). n / 2 ^ (d * k)) (encode_add M a k s f)
    ∙ high (encode M a s g) (d * k) (encode_lt M t k (end M a s g) f (end_lt M t a s g p (λ j. h (j + k))) h)

-- the levels of a part of a number
pub level_up : (d j k n : ℕ) → level d j (n / 2 ^ (d * k)) ≡ level d (j + k) n
level_up d j k n =
    ap (λ (x : ℕ). x % 2 ^ d) (shr-shr n (d * k) (d * j) ∙ ap (λ (x : ℕ). n / 2 ^ x) (sym (mul-add d k j) ∙ ap (λ (x : ℕ). d * x) e))
  where
    e : k + j ≡ j + k
    e = omega arith

pub level_mod : (d j g n : ℕ) → j < g → level d j (n % 2 ^ (d * g)) ≡ level d j n
level_mod d j g n h = part_mod d (d * j) (d * g) n (below d j g h)

-- what the table says of a state and the lowest g levels of n
pub group_said : {d : ℕ} (M : Machine d) (g s n : ℕ)
    → group_entry M g (2 ^ (d * g) * s + n % 2 ^ (d * g))
    ≡ end M g s (λ k. level d k n) * 2 ^ (d * g) + encode M g s (λ k. level d k n)
unfolding group_entry
group_said {d} M g s n =
    let P : ℕ = 2 ^ (d * g) in
    let m : ℕ = n % P in
    let l : m < P = mod-lt n (pow_pos (d * g)) in
    ap (λ (x : ℕ). group_entry M g (x + m)) (mul_comm P s)
    ∙ ap₂ (λ (r v : ℕ). P * end M g r (λ k. level d k v) + encode M g r (λ k. level d k v)) (digits_div s l) (digits_mod s l)
    ∙ ap₂ (λ (x y : ℕ). P * x + y)
    (end_same M g s (λ k. level d k m) (λ k. level d k n) (λ j h. level_mod d j g n h))
    (encode_same M g s (λ k. level d k m) (λ k. level d k n) (λ j h. level_mod d j g n h))
    ∙ ap (λ (x : ℕ). x + encode M g s (λ k. level d k n)) (mul_comm P (end M g s (λ k. level d k n)))
