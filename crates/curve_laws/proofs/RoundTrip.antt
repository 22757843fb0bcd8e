-- The round trips between cells and indices, for any machine whose rows are permutations. Assumes nothing.
use Prim.Native.Nat.{ℕ, zero, suc, ◌+◌, ◌*◌, ◌%◌, ◌^◌, ◌<◌}
use mathlib.Core.Path.{◌≡◌, refl, sym, ap, ap₂, ◌∙◌, subst}
use native.Mathlib.Omega.{arith}
use native.Mathlib.Nat.{mod-eq_of_lt, mul-zero}
use lib.Dec.{T, lit<}
use lib.Arith.{digits_lt}
use lib.Pow.{pow_pos, pow-add}
use Rattle.rules.specs.Curve.{Machine, bit, level, quadrant, encode, undo, decode, index_of, coordinate_of}
use Rattle.curve_laws.proofs.Permutes.{permutes, row}
use Rattle.curve_laws.proofs.Parts.{part_lt, part_top, part_low, more, below, level_more, bit_more, bit_lt, quadrant_lt, quadrant_same, bit_quadrant, quadrant_is}

-- the levels that are read are the same
pub encode_same : {d : ℕ} (M : Machine d) (k s : ℕ) (f g : ℕ → ℕ) → ((j : ℕ) → j < k → f j ≡ g j) → encode M k s f ≡ encode M k s g
unfolding encode
encode_same M zero s f g h = refl
encode_same {d} M (suc k) s f g h =
    ap (λ (q : ℕ). M.digit s q * 2 ^ (d * k) + encode M k (M.next s q) f) (h k (omega arith))
    ∙ ap (λ (x : ℕ). M.digit s (g k) * 2 ^ (d * k) + x) (encode_same M k (M.next s (g k)) f g (λ j p. h j (omega arith)))

pub decode_same : {d : ℕ} (M : Machine d) (e k s : ℕ) (f g : ℕ → ℕ) → ((j : ℕ) → j < k → f j ≡ g j) → decode M e k s f ≡ decode M e k s g
unfolding decode
decode_same M e zero s f g h = refl
decode_same M e (suc k) s f g h =
    ap (λ (q : ℕ). bit e (undo M s q) * 2 ^ k + decode M e k (M.next s (undo M s q)) f) (h k (omega arith))
    ∙ ap (λ (x : ℕ). bit e (undo M s (g k)) * 2 ^ k + x)
    (decode_same M e k (M.next s (undo M s (g k))) f g (λ j p. h j (omega arith)))

-- a coordinate of k levels has k bits
pub decode_lt : {d : ℕ} (M : Machine d) (e k s : ℕ) (g : ℕ → ℕ) → decode M e k s g < 2 ^ k
unfolding decode
decode_lt M e zero s g = lit< tt
decode_lt M e (suc k) s g =
    bit_lt k (part_lt 1 e (undo M s (g k))) (decode_lt M e k (M.next s (undo M s (g k))) g)

pub coordinate_below : {d : ℕ} (M : Machine d) (order index e : ℕ) → coordinate_of M order index e < 2 ^ order
unfolding coordinate_of
coordinate_below {d} M order index e = decode_lt M e order 0 (λ k. level d k index)

-- the bits of axis e of the quadrants f, and the digits g, read as a number
gather : ℕ → ℕ → (ℕ → ℕ) → ℕ
gather e zero f = 0
gather e (suc k) f = bit e (f k) * 2 ^ k + gather e k f

gather_is : (e k x : ℕ) (f : ℕ → ℕ) → ((j : ℕ) → bit e (f j) ≡ bit j x) → gather e k f ≡ x % 2 ^ k
unfolding gather
gather_is e zero x f h = omega arith
gather_is e (suc k) x f h = ap₂ (λ (b r : ℕ). b * 2 ^ k + r) (h k) (gather_is e k x f h) ∙ bit_more k x

number : ℕ → ℕ → (ℕ → ℕ) → ℕ
number d zero g = 0
number d (suc k) g = g k * 2 ^ (d * k) + number d k g

number_is : (d k n : ℕ) → number d k (λ j. level d j n) ≡ n % 2 ^ (d * k)
unfolding number
number_is d zero n =
    let e : n % 2 ^ 0 ≡ 0 = omega arith in
    sym (ap (λ (x : ℕ). n % 2 ^ x) (mul-zero d) ∙ e)
number_is d (suc k) n = ap (λ (x : ℕ). level d k n * 2 ^ (d * k) + x) (number_is d k n) ∙ level_more d k n

module _ {d : ℕ} (M : Machine d) (t : T (permutes M)) where
  -- an index of k levels is below 2^(d * k)
  pub encode_lt : (k s : ℕ) (f : ℕ → ℕ) → s < M.states → ((j : ℕ) → f j < 2 ^ d) → encode M k s f < 2 ^ (d * k)
  unfolding encode
  encode_lt zero s f p h = pow_pos (d * 0)
  encode_lt (suc k) s f p h =
      let w = row M t s (f k) p (h k) in
      subst (λ (x : ℕ). encode M (suc k) s f < x) (sym (pow-add 2 d (d * k)) ∙ ap (λ (x : ℕ). 2 ^ x) (more d k))
      (digits_lt w.digit_lt (encode_lt k (M.next s (f k)) f w.next_lt h))

  -- decoding the index of the quadrants f gives back their bits
  forth : (e k s : ℕ) (f : ℕ → ℕ) → s < M.states → ((j : ℕ) → f j < 2 ^ d) → decode M e k s (λ j. level d j (encode M k s f)) ≡ gather e k f
  unfolding encode decode gather
  forth e zero s f p h = refl
  forth e (suc k) s f p h =
      let w = row M t s (f k) p (h k) in
      let s' : ℕ = M.next s (f k) in
      let D : ℕ = M.digit s (f k) in
      let R : ℕ = encode M k s' f in
      let l : R < 2 ^ (d * k) = encode_lt k s' f w.next_lt h in
      let i : ℕ = D * 2 ^ (d * k) + R in
      let q : undo M s (level d k i) ≡ f k = ap (undo M s) (part_top d (d * k) w.digit_lt l) ∙ w.undone in
      ap (λ (x : ℕ). bit e x * 2 ^ k + decode M e k (M.next s x) (λ j. level d j i)) q
      ∙ ap (λ (x : ℕ). bit e (f k) * 2 ^ k + x)
      (decode_same M e k s' (λ j. level d j i) (λ j. level d j R) (λ j g. part_low d (d * j) (d * k) D (below d j k g) l)
      ∙ forth e k s' f w.next_lt h)

  -- encoding the cell of the digits g gives them back
  back : (k s : ℕ) (g : ℕ → ℕ) → s < M.states → ((j : ℕ) → g j < 2 ^ d) → encode M k s (λ j. quadrant d j (λ e. decode M e k s g)) ≡ number d k g
  unfolding encode decode number
  back zero s g p h = refl
  back (suc k) s g p h =
      let q : ℕ = undo M s (g k) in
      let w = row M t s (g k) p (h k) in
      let v = row M t s q p w.undo_lt in
      let s' : ℕ = M.next s q in
      let C : ℕ → ℕ = λ e. decode M e k s' g in
      let B : ℕ → ℕ = λ e. bit e q * 2 ^ k + C e in
      let a : quadrant d k B ≡ q = quadrant_is d k q B (λ e. part_top 1 k (part_lt 1 e q) (decode_lt M e k s' g)) ∙ mod-eq_of_lt w.undo_lt in
      ap (λ (x : ℕ). M.digit s x * 2 ^ (d * k) + encode M k (M.next s x) (λ j. quadrant d j B)) a
      ∙ ap₂ (λ (x y : ℕ). x * 2 ^ (d * k) + y) w.redone
      (encode_same M k s' (λ j. quadrant d j B) (λ j. quadrant d j C)
      (λ j l. quadrant_same d j B C (λ e. part_low 1 j k (bit e q) (omega arith) (decode_lt M e k s' g)))
      ∙ back k s' g v.next_lt h)

  module _ (start : 0 < M.states) where
    -- decode (encode cell) is the cell
    pub decode-encode : (order : ℕ) (c : ℕ → ℕ) (e : ℕ) → e < d → c e < 2 ^ order → coordinate_of M order (index_of M order c) e ≡ c e
    unfolding coordinate_of index_of
    decode-encode order c e h l =
        forth e order 0 (λ k. quadrant d k c) start (λ k. quadrant_lt d k c)
        ∙ gather_is e order (c e) (λ k. quadrant d k c) (λ j. bit_quadrant d j e c h)
        ∙ mod-eq_of_lt l

    -- encode (decode index) is the index
    pub encode-decode : (order index : ℕ) → index < 2 ^ (d * order) → index_of M order (coordinate_of M order index) ≡ index
    unfolding coordinate_of index_of
    encode-decode order index h =
        back order 0 (λ k. level d k index) start (λ k. part_lt d (d * k) index)
        ∙ number_is d order index
        ∙ mod-eq_of_lt h

    -- an index is below 2^(d * order)
    pub index_below : (order : ℕ) (c : ℕ → ℕ) → index_of M order c < 2 ^ (d * order)
    unfolding index_of
    index_below order c = encode_lt order 0 (λ k. quadrant d k c) start (λ k. quadrant_lt d k c)
