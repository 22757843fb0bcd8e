-- Successive indices have neighbouring cells, in any dimension and at every order, of a machine that passes two computed tests (Permutes, and
-- CornersMeet of rules). Why it holds: in each state the first digit, repeated down the levels, stays in one corner of the block, and so does the
-- last digit. From each digit to the next, the last corner of the one's quadrant touches the first corner of the other's. An index that goes up by
-- 1 either stays in its quadrant, and takes a step of the levels below, or goes from the last cell of its quadrant to the first cell of the next.
-- Assumes nothing.
use Prim.Native.Nat.{ℕ, zero, suc, ◌+◌, ◌-◌, ◌*◌, ◌/◌, ◌%◌, ◌^◌, ◌≤◌, ◌<◌}
use mathlib.Core.Path.{◌≡◌, refl, sym, ap, ap₂, ◌∙◌}
use mathlib.Core.Bool.{Bool, ◌&&◌}
use native.Mathlib.Omega.{arith}
use native.Mathlib.Decide.{ℕ_discrete}
use native.Mathlib.Nat.{zero-mul, one-mul, mul-zero, mul-add, suc-mul, pow-suc, zero-div, zero-mod, mod-lt, mod-eq_of_lt, div-add-mod', lt_of_mul-lt-mul_right}
use native.Mathlib.Numerals.{add-one}
use lib.Dec.{T, eqb, eqb→eq}
use lib.Arith.{digits_div, digits_mod}
use lib.Pow.{pow_pos, pow-add, ones_split, ones_lt, high, low}
use Rattle.rules.specs.Sums.{pick, total, all_below}
use Rattle.rules.specs.Curve.{Machine, part, bit, level, seek_digit, undo, decode, digit_table, next_table, plane, octant_table, space, coordinate_of}
use Rattle.rules.specs.Demands.{apart, Neighbours2, Ends2, Neighbours3, Ends3}
use Rattle.rules.proofs.CornersMeet.{distance, inside, keeps, gap, connected, connects, plane_connects, space_connects}
use Rattle.curve_laws.proofs.All.{left, right, all-at}
use Rattle.curve_laws.proofs.Parts.{part_lt, more, below, level_more}
use Rattle.curve_laws.proofs.Permutes.{permutes, row, plane_permutes, plane_start, space_permutes, space_start}
use Rattle.curve_laws.proofs.Groups.{level_mod}
use Rattle.curve_laws.proofs.Refusals.{decode2_cell, decode3_cell}
use Rattle.curve_laws.proofs.Demand2.{power}

-- THE TEST

-- what the test says of a state
pub record Connected {d : ℕ} (M : Machine d) (s : ℕ) : Type 0 where
  pub first_keeps : undo M (inside M s 0) 0 ≡ undo M s 0
  pub last_keeps : undo M (inside M s (2 ^ d - 1)) (2 ^ d - 1) ≡ undo M s (2 ^ d - 1)
  pub touches : (g : ℕ) → g < 2 ^ d - 1 → gap M 4 s g ≡ 1

pub connection : {d : ℕ} (M : Machine d) → T (connects M) → (s : ℕ) → s < M.states → Connected M s
connection {d} M t s h =
    let a : Bool = keeps M s 0 in
    let b : Bool = keeps M s (2 ^ d - 1) in
    let c : Bool = all_below (2 ^ d - 1) (λ g. eqb (gap M 4 s g) 1) in
    let w : T (a && (b && c)) = all-at M.states (connected M) t s h in
    let r : T (b && c) = right a (b && c) w in
    record {
      first_keeps = eqb→eq _ _ (left a (b && c) w);
      last_keeps = eqb→eq _ _ (left b c r);
      touches = λ g l. eqb→eq _ _ (all-at (2 ^ d - 1) (λ g. eqb (gap M 4 s g) 1) (right b c r) g l);
    }

-- ANY SIDE

-- on one axis, of quadrants with bits b and c and of corners in them with bits m and n: at most 1 apart with 4 cells on a side, they are the
-- same or face each other, and so they are with P
any_side : (P b m c n : ℕ) → 0 < P → b < 2 → m < 2 → c < 2 → n < 2 → apart (b * 4 + m * 3) (c * 4 + n * 3) ≤ 1
    → apart (b * P + m * (P - 1)) (c * P + n * (P - 1)) ≡ apart (b * 4 + m * 3) (c * 4 + n * 3)
any_side P zero m zero n p hb hm hc hn l = let e : m ≡ n = omega arith in rw e (omega arith)
any_side P zero m (suc zero) n p hb hm hc hn l =
    let e : m ≡ 1 = omega arith in
    let f : n ≡ 0 = omega arith in
    rw (e, f) (omega arith)
any_side P zero m (suc (suc c)) n p hb hm hc hn l = absurd (omega arith)
any_side P (suc zero) m zero n p hb hm hc hn l =
    let e : m ≡ 0 = omega arith in
    let f : n ≡ 1 = omega arith in
    rw (e, f) (omega arith)
any_side P (suc zero) m (suc zero) n p hb hm hc hn l = let e : m ≡ n = omega arith in rw e (omega arith)
any_side P (suc zero) m (suc (suc c)) n p hb hm hc hn l = absurd (omega arith)
any_side P (suc (suc b)) m c n p hb hm hc hn l = absurd (omega arith)

-- and summed over the axes
total_same : (f g : ℕ → ℕ) (n : ℕ) → ((e : ℕ) → f e ≤ 1 → g e ≡ f e) → total f n ≤ 1 → total g n ≡ total f n
unfolding total
total_same f g zero h l = refl
total_same f g (suc n) h l = ap₂ (λ (x y : ℕ). x + y) (total_same f g n h (omega arith)) (h n (omega arith))

-- COUNTING

-- n in base D goes up by 1: its last digit goes up, or it is full, and the digits above it go up
stays : (n : ℕ) {D : ℕ} → suc (n % D) < D → (suc n / D ≡ n / D) × (suc n % D ≡ suc (n % D))
stays n {D} h =
    let e : suc n ≡ n / D * D + suc (n % D) = omega (arith, div-add-mod' n D) in
    (rw e (digits_div (n / D) h), rw e (digits_mod (n / D) h))

rolls : (n : ℕ) {D : ℕ} → 0 < D → suc (n % D) ≡ D → (suc n / D ≡ suc (n / D)) × (suc n % D ≡ 0)
rolls n {D} p h =
    let e : suc n ≡ suc (n / D) * D + 0 = omega (arith, div-add-mod' n D, suc-mul (n / D) D) in
    (rw e (digits_div (suc (n / D)) p), rw e (digits_mod (suc (n / D)) p))

-- the parts of 0 are 0, those of 2^n - 1 are full
part_zero : (w m : ℕ) → part w m 0 ≡ 0
part_zero w m = ap (λ (x : ℕ). x % 2 ^ w) (zero-div (2 ^ m)) ∙ zero-mod (2 ^ w)

part_full : (w m n : ℕ) → m + w ≤ n → part w m (2 ^ n - 1) ≡ 2 ^ w - 1
part_full w m n h =
    let r : ℕ = n - w - m in
    let e : n ≡ r + w + m = omega arith in
    ap (λ (x : ℕ). part w m (2 ^ x - 1)) e
    ∙ ap (part w m) (ones_split (r + w) m)
    ∙ ap (λ (x : ℕ). x % 2 ^ w) (high (2 ^ (r + w) - 1) m (ones_lt m) ∙ ones_split r w)
    ∙ low (2 ^ r - 1) w (ones_lt w)

-- the bit b at each of suc k levels
every_level : (k b : ℕ) → b * 2 ^ k + b * (2 ^ k - 1) ≡ b * (2 ^ suc k - 1)
every_level k b = sym (mul-add b (2 ^ k) (2 ^ k - 1)) ∙ ap (λ (x : ℕ). b * x) (omega (arith, pow-suc 2 k, pow_pos k))

-- THE STEP

-- the cell of the lowest k levels of index i, met in state s
abbrev cell : {d : ℕ} → Machine d → ℕ → ℕ → ℕ → ℕ → ℕ
cell {d} M k s i e = decode M e k s (λ j. level d j i)

-- two cells of one quadrant
slide : (B x u : ℕ) → apart (B + x) (B + u) ≡ apart x u
slide B x u = omega arith

module _ {d : ℕ} (M : Machine d) (p : T (permutes M)) (t : T (connects M)) where
  inside_lt : (s g : ℕ) → s < M.states → g < 2 ^ d → inside M s g < M.states
  inside_lt s g h l = (row M p s (undo M s g) h (row M p s g h l).undo_lt).next_lt

  -- a digit that keeps to its quadrant, at every level, gives a corner
  in_corner : (g : ℕ) → g < 2 ^ d → ((s : ℕ) → s < M.states → undo M (inside M s g) g ≡ undo M s g)
      → (e k s : ℕ) (f : ℕ → ℕ) → s < M.states → ((j : ℕ) → j < k → f j ≡ g) → decode M e k s f ≡ bit e (undo M s g) * (2 ^ k - 1)
  unfolding decode
  in_corner g l kept e zero s f h same = sym (mul-zero (bit e (undo M s g)))
  in_corner g l kept e (suc k) s f h same =
      let b : ℕ = bit e (undo M s g) in
      ap (λ (x : ℕ). bit e (undo M s x) * 2 ^ k + decode M e k (inside M s x) f) (same k (omega arith))
      ∙ ap (λ (x : ℕ). b * 2 ^ k + x) (in_corner g l kept e k (inside M s g) f (inside_lt s g h l) (λ j o. same j (omega arith)))
      ∙ ap (λ (x : ℕ). b * 2 ^ k + bit e x * (2 ^ k - 1)) (kept s h)
      ∙ every_level k b

  first_cell : (k s i : ℕ) → s < M.states → i % 2 ^ (d * k) ≡ 0 → (e : ℕ) → cell M k s i e ≡ bit e (undo M s 0) * (2 ^ k - 1)
  first_cell k s i h z e =
      in_corner 0 (pow_pos d) (λ s l. (connection M t s l).first_keeps) e k s (λ j. level d j i) h
      (λ j l. sym (level_mod d j k i l) ∙ ap (level d j) z ∙ part_zero d (d * j))

  last_cell : (k s i : ℕ) → s < M.states → i % 2 ^ (d * k) ≡ 2 ^ (d * k) - 1 → (e : ℕ) → cell M k s i e ≡ bit e (undo M s (2 ^ d - 1)) * (2 ^ k - 1)
  last_cell k s i h z e =
      in_corner (2 ^ d - 1) (ones_lt d) (λ s l. (connection M t s l).last_keeps) e k s (λ j. level d j i) h
      (λ j l. sym (level_mod d j k i l) ∙ ap (level d j) z ∙ part_full d (d * j) (d * k) (below d j k l))

  touching : (P s g : ℕ) → 0 < P → s < M.states → g < 2 ^ d - 1 → gap M P s g ≡ 1
  touching P s g o h l =
      let one : gap M 4 s g ≡ 1 = (connection M t s h).touches g l in
      let two : (e q : ℕ) → bit e q < 2 = λ e q. part_lt 1 e q in
      total_same _ _ d (λ e. any_side P _ _ _ _ o (two e _) (two e _) (two e _) (two e _)) (omega arith) ∙ one

  -- where the lowest k levels of i are not all full
  steps : (k s i : ℕ) → s < M.states → suc (i % 2 ^ (d * k)) < 2 ^ (d * k) → distance d (cell M k s i) (cell M k s (suc i)) ≡ 1
  unfolding decode
  steps zero s i h l = absurd (omega (arith, ap (λ (x : ℕ). 2 ^ x) (mul-zero d)))
  steps (suc k) s i h l =
      let P : ℕ = 2 ^ (d * k) in
      let G : ℕ = level d k i in
      let G-lt : G < 2 ^ d = part_lt d (d * k) i in
      elim (ℕ_discrete (suc (i % P)) P) [
        | yes full ↦
            let side : 2 ^ (d * suc k) ≡ 2 ^ d * P = ap (λ (x : ℕ). 2 ^ x) (sym (more d k)) ∙ pow-add 2 d (d * k) in
            let up_lt : suc G < 2 ^ d = lt_of_mul-lt-mul_right P (omega (arith, level_more d k i, suc-mul G P)) in
            let rolled = rolls i (pow_pos (d * k)) full in
            let up : level d k (suc i) ≡ suc G = ap (λ (x : ℕ). x % 2 ^ d) rolled.0 ∙ (stays (i / P) up_lt).1 in
            let from = last_cell k (inside M s G) i (inside_lt s G h G-lt) (omega arith) in
            let to = first_cell k (inside M s (suc G)) (suc i) (inside_lt s (suc G) h up_lt) rolled.1 in
            rw up (simp (from, to) (touching (2 ^ k) s G (pow_pos k) h (omega arith)))
        | no room ↦
            let l' : suc (i % P) < P = omega (arith, mod-lt i (pow_pos (d * k))) in
            let same : level d k (suc i) ≡ G = ap (λ (x : ℕ). x % 2 ^ d) (stays i l').0 in
            rw same (simp slide (steps k (inside M s G) i (inside_lt s G h G-lt) l'))
      ]

  -- FROM STATE 0
  module _ (start : 0 < M.states) where
    pub neighbours : (order i : ℕ) → i + 1 < 2 ^ (d * order) → distance d (coordinate_of M order i) (coordinate_of M order (i + 1)) ≡ 1
    unfolding coordinate_of
    neighbours order i h =
        let e : i % 2 ^ (d * order) ≡ i = mod-eq_of_lt (omega arith) in
        rw add-one (steps order 0 i start (omega arith))

    pub first_corner : (order e : ℕ) → coordinate_of M order 0 e ≡ bit e (undo M 0 0) * (2 ^ order - 1)
    unfolding coordinate_of
    first_corner order = first_cell order 0 0 start (zero-mod (2 ^ (d * order)))

    pub last_corner : (order e : ℕ) → coordinate_of M order (2 ^ (d * order) - 1) e ≡ bit e (undo M 0 (2 ^ d - 1)) * (2 ^ order - 1)
    unfolding coordinate_of
    last_corner order = last_cell order 0 (2 ^ (d * order) - 1) start (mod-eq_of_lt (ones_lt (d * order)))

-- 2D

pub neighbours_2d : Neighbours2
unfolding total
neighbours_2d i order o h =
    let l : i + 1 < 2 ^ (2 * order) = rw (power 2 order) at h in
    let one = neighbours plane plane_permutes plane_connects plane_start order i l in
    (_, _, _, _, decode2_cell i order o (omega arith), decode2_cell (i + 1) order o l, omega arith)

pub ends_2d : Ends2
unfolding pick digit_table next_table plane seek_digit undo
ends_2d order o =
    let first = first_corner plane plane_permutes plane_connects plane_start order in
    let last = last_corner plane plane_permutes plane_connects plane_start order in (
      decode2_cell _ order o (pow_pos (2 * order)) ∙ simp (first, zero-mul),
      rw (power 2 order) (decode2_cell _ order o (ones_lt (2 * order)) ∙ simp (last, zero-mul, one-mul)),
    )

-- 3D

pub neighbours_3d : Neighbours3
unfolding total
neighbours_3d i order o h =
    let l : i + 1 < 2 ^ (3 * order) = rw (power 3 order) at h in
    let one = neighbours space space_permutes space_connects space_start order i l in
    (_, _, _, _, _, _, decode3_cell i order o (omega arith), decode3_cell (i + 1) order o l, omega arith)

pub ends_3d : Ends3
unfolding pick octant_table space seek_digit undo
ends_3d order o =
    let first = first_corner space space_permutes space_connects space_start order in
    let last = last_corner space space_permutes space_connects space_start order in (
      decode3_cell _ order o (pow_pos (3 * order)) ∙ simp (first, zero-mul),
      rw (power 3 order) (decode3_cell _ order o (ones_lt (3 * order)) ∙ simp (last, zero-mul, one-mul)),
    )
