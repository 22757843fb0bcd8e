-- One turn of a decoder's loop, for any machine whose rows are permutations: the entry of the state and the next digit holds the quadrant,
-- whose bits go to the coordinates, and the next state. Assumes nothing.
use Prim.Native.Nat.{ℕ, ◌+◌, ◌-◌, ◌*◌, ◌/◌, ◌%◌, ◌^◌, ◌≤◌, ◌<◌}
use mathlib.Core.Path.{◌≡◌, sym, ap, ap₂, ◌∙◌, subst}
use native.Mathlib.Omega.{arith}
use native.Mathlib.Nat.{mul_comm}
use lib.Arith.{digits_div, digits_mod}
use lib.Dec.{T}
use lib.Pow.{pow_mono}
use Rattle.rules.specs.Curve.{Machine, bit, level, undo, decode, coordinate_of}
use Rattle.curve_laws.proofs.Parts.{part_lt, part_mod}
use Rattle.curve_laws.proofs.Permutes.{permutes, row}
use Rattle.curve_laws.proofs.RoundTrip.{coordinate_below}
use Rattle.curve_laws.proofs.Turns.{decode_turn, at_most}
use Rattle.curve_laws.specs.Undoes.{undo_entry}

-- what stands at a state and a digit
undo_entry_lem : {d : ℕ} (M : Machine d) (s g : ℕ) → g < 2 ^ d → undo_entry M (2 ^ d * s + g) ≡ 2 ^ d * M.next s (undo M s g) + undo M s g
unfolding undo_entry
undo_entry_lem {d} M s g h =
    ap (λ (n : ℕ). undo_entry M (n + g)) (mul_comm (2 ^ d) s)
    ∙ ap₂ (λ (r n : ℕ). let q : ℕ = undo M r n in 2 ^ d * M.next r q + q) (digits_div s h) (digits_mod s h)

-- what is done of the coordinate on axis e, shifted up by the levels left, and what is to come make the whole
abbrev pub Done : {d : ℕ} → Machine d → ℕ → ℕ → ℕ → ℕ → ℕ → ℕ → Type 0
Done {d} M index order e left state X = X * 2 ^ left + decode M e left state (λ j. level d j index) ≡ coordinate_of M order index e

module _ {d : ℕ} (M : Machine d) (t : T (permutes M)) (index order left state entry : ℕ) (p : 0 < left) (h : state < M.states)
    (w : entry ≡ undo_entry M (2 ^ d * state + level d (left - 1) index)) where
  digit : ℕ
  digit = level d (left - 1) index

  said : entry ≡ M.next state (undo M state digit) * 2 ^ d + undo M state digit
  unfolding digit
  said =
      w
      ∙ undo_entry_lem M state digit (part_lt d (d * (left - 1)) index)
      ∙ ap (λ (n : ℕ). n + undo M state digit) (mul_comm (2 ^ d) (M.next state (undo M state digit)))

  below : undo M state digit < 2 ^ d
  unfolding digit
  below = (row M t state digit h (part_lt d (d * (left - 1)) index)).undo_lt

  next_is : entry / 2 ^ d ≡ M.next state (undo M state digit)
  next_is = ap (λ (n : ℕ). n / 2 ^ d) said ∙ digits_div (M.next state (undo M state digit)) below

  quadrant_is : entry % 2 ^ d ≡ undo M state digit
  quadrant_is = ap (λ (n : ℕ). n % 2 ^ d) said ∙ digits_mod (M.next state (undo M state digit)) below

  pub next_state : entry / 2 ^ d < M.states
  next_state = subst (λ (n : ℕ). n < M.states) (sym next_is) (row M t state (undo M state digit) h below).next_lt

  -- b is the next bit of the coordinate
  pub next_bit : (e X b : ℕ) → e < d → b ≡ bit e entry → Done M index order e left state X → Done M index order e (left - 1) (entry / 2 ^ d) (2 * X + b)
  unfolding digit
  next_bit e X b l f i =
      let g : b ≡ bit e (undo M state digit) = f ∙ sym (part_mod 1 e d entry (omega arith)) ∙ ap (bit e) quadrant_is in
      ap₂ (λ (n s : ℕ). (2 * X + n) * 2 ^ (left - 1) + decode M e (left - 1) s (λ j. level d j index)) g next_is
      ∙ sym (decode_turn M e left state X (λ j. level d j index) p)
      ∙ i

-- what is done of a coordinate fits
pub fits : {d : ℕ} (M : Machine d) (index order e left state X : ℕ) → order ≤ 32 → Done M index order e left state X → X < 2 ^ 32
fits {d} M index order e left state X o i =
    omega (arith, at_most X left (decode M e left state (λ j. level d j index)) (coordinate_of M order index e) i, coordinate_below M order index e, pow_mono o)
