-- One turn of the 3D encoder's loop: the entry of the state and the next octant holds the next digit and the next state. Assumes nothing.
use Prim.Native.Nat.{ℕ, ◌+◌, ◌-◌, ◌*◌, ◌/◌, ◌%◌, ◌^◌, ◌≤◌, ◌<◌}
use mathlib.Core.Path.{◌≡◌, sym, ap, ap₂, ◌∙◌}
use native.Mathlib.Omega.{arith}
use lib.Bits.{bit_and, bit_or, and_mask, and_high, or_shifted}
use lib.ListN.{get_or}
use Rattle.rules.specs.Curve.{level, encode, octant_table, space}
use Rattle.curve_laws.proofs.Parts.{part_lt}
use Rattle.curve_laws.proofs.Permutes.{row, space_permutes}
use Rattle.curve_laws.proofs.Turns.{encode_turn, at_most}

-- config is 8 * state
place : (config octant : ℕ) → config % 8 ≡ 0 → octant < 8 → bit_or config octant ≡ 8 * (config / 8) + octant
place config octant m o =
    let c : config ≡ config / 8 * 8 = omega arith in
    let s : config / 8 * 8 ≡ 8 * (config / 8) = omega arith in
    ap (λ (n : ℕ). bit_or n octant) c ∙ or_shifted (config / 8) 3 octant o ∙ ap (λ (n : ℕ). n + octant) s

pub place_lt : (config octant : ℕ) → config % 8 ≡ 0 → config < 96 → octant < 8 → bit_or config octant < 96
place_lt config octant m l o = omega (arith, place config octant m o)

module _ (zorder left config : ℕ) (p : 0 < left) (m : config % 8 ≡ 0) (l : config < 96) where
  octant : ℕ
  octant = level 3 (left - 1) zorder

  module _ (entry : ℕ) (w : entry ≡ get_or octant_table (bit_or config (level 3 (left - 1) zorder)) 0) where
    next_is : entry / 8 ≡ space.next (config / 8) octant
    unfolding space octant
    next_is = ap (λ (n : ℕ). n / 8) (w ∙ ap (λ (n : ℕ). get_or octant_table n 0) (place config (level 3 (left - 1) zorder) m (part_lt 3 (3 * (left - 1)) zorder)))

    digit_is : entry % 8 ≡ space.digit (config / 8) octant
    unfolding space octant
    digit_is = ap (λ (n : ℕ). n % 8) (w ∙ ap (λ (n : ℕ). get_or octant_table n 0) (place config (level 3 (left - 1) zorder) m (part_lt 3 (3 * (left - 1)) zorder)))

    entry_lt : entry / 8 < 12
    unfolding space octant
    entry_lt = omega (arith, next_is, (row space space_permutes (config / 8) octant (omega arith) (part_lt 3 (3 * (left - 1)) zorder)).next_lt)

    kept : bit_and entry (2 ^ 64 - 8) ≡ entry / 8 * 8
    kept =
        let a : entry / 8 % 2 ^ 61 * 8 ≡ entry / 8 * 8 = omega (arith, entry_lt) in
        and_high entry 61 3 ∙ a

    pub config_next : bit_and entry (2 ^ 64 - 8) % 8 ≡ 0
    config_next = omega (arith, kept)

    pub config_lt : bit_and entry (2 ^ 64 - 8) < 96
    config_lt = omega (arith, kept, entry_lt)

    pub octant_turn : (hilbert N : ℕ) → N < 2 ^ 63 → hilbert * 2 ^ (3 * left) + encode space left (config / 8) (λ k. level 3 k zorder) ≡ N
        → bit_or (hilbert * 8 % 2 ^ 64) (bit_and entry 7) * 2 ^ (3 * (left - 1)) + encode space (left - 1) (bit_and entry (2 ^ 64 - 8) / 8) (λ k. level 3 k zorder) ≡ N
    unfolding octant
    octant_turn hilbert N h i =
        let f : ℕ → ℕ = λ k. level 3 k zorder in
        let D : ℕ = space.digit (config / 8) octant in
        let t : (hilbert * 8 + D) * 2 ^ (3 * (left - 1)) + encode space (left - 1) (space.next (config / 8) octant) f ≡ N =
        sym (encode_turn space left (config / 8) hilbert f p) ∙ i
        in
        let b : hilbert * 8 + D ≤ N = at_most (hilbert * 8 + D) (3 * (left - 1)) (encode space (left - 1) (space.next (config / 8) octant) f) N t in
        let a : hilbert * 8 % 2 ^ 64 ≡ hilbert * 8 = omega arith in
        let g : bit_and entry 7 ≡ D = and_mask entry 3 ∙ digit_is in
        let q : bit_and entry (2 ^ 64 - 8) / 8 ≡ entry / 8 = omega (arith, kept) in
        let x : bit_or (hilbert * 8 % 2 ^ 64) (bit_and entry 7) ≡ hilbert * 8 + D = ap₂ bit_or a g ∙ or_shifted hilbert 3 D (omega (arith, digit_is)) in
        ap₂ (λ (n s : ℕ). n * 2 ^ (3 * (left - 1)) + encode space (left - 1) s f) x (q ∙ next_is) ∙ t
