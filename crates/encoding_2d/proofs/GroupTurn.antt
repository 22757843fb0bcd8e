-- One turn of the 2D encoder's loop, six levels by one entry of the table, and the last group, filled up with zero bits. Assumes nothing.
use Prim.Native.Nat.{ℕ, ◌+◌, ◌-◌, ◌*◌, ◌/◌, ◌%◌, ◌^◌, ◌≤◌, ◌<◌}
use mathlib.Core.Path.{◌≡◌, sym, ap, ap₂, ◌∙◌, subst}
use native.Mathlib.Omega.{arith}
use native.Mathlib.Nat.{mod-eq_of_lt}
use lib.Arith.{digits_div, digits_mod}
use lib.Bits.{bit_and, bit_or, and_mask, or_shifted}
use lib.Pow.{shl-shr}
use Rattle.rules.specs.Curve.{level, encode, end, group_entry, plane}
use Rattle.curve_laws.proofs.Parts.{part_lt}
use Rattle.curve_laws.proofs.RoundTrip.{encode_same, encode_lt}
use Rattle.curve_laws.proofs.Permutes.{plane_permutes}
use Rattle.curve_laws.proofs.Turns.{at_most}
use Rattle.curve_laws.proofs.Groups.{end_same, end_lt, group_turn, group_said, level_up, padded}

-- the quadrants of an interleaved number
abbrev quadrants : ℕ → ℕ → ℕ
quadrants n k = level 2 k n

-- what an entry says of a state and the lowest six levels of n
module _ (n state entry : ℕ) (h : state < plane.states) (w : entry ≡ group_entry plane 6 (4096 * state + n % 4096)) where
  low_lt : encode plane 6 state (quadrants n) < 4096
  low_lt = encode_lt plane plane_permutes 6 state (quadrants n) h (λ j. part_lt 2 (2 * j) n)

  said : entry ≡ end plane 6 state (quadrants n) * 4096 + encode plane 6 state (quadrants n)
  said = w ∙ group_said plane 6 state n

  end_is : entry / 4096 ≡ end plane 6 state (quadrants n)
  end_is = ap (λ (x : ℕ). x / 4096) said ∙ digits_div (end plane 6 state (quadrants n)) low_lt

  digits_is : bit_and entry 4095 ≡ encode plane 6 state (quadrants n)
  digits_is = and_mask entry 12 ∙ ap (λ (x : ℕ). x % 4096) said ∙ digits_mod (end plane 6 state (quadrants n)) low_lt

  pub state_lt : entry / 4096 < plane.states
  state_lt = subst (λ (x : ℕ). x < plane.states) (sym end_is) (end_lt plane plane_permutes 6 state (quadrants n) h (λ j. part_lt 2 (2 * j) n))

-- a turn: six levels more
pub group_next : (zorder left state entry hilbert N : ℕ) → 6 ≤ left → state < plane.states
    → entry ≡ group_entry plane 6 (4096 * state + zorder / 2 ^ (2 * (left - 6)) % 4096)
    → N < 2 ^ 64 → hilbert * 2 ^ (2 * left) + encode plane left state (quadrants zorder) ≡ N
    → bit_or (hilbert * 4096 % 2 ^ 64) (bit_and entry 4095) * 2 ^ (2 * (left - 6)) + encode plane (left - 6) (entry / 4096) (quadrants zorder) ≡ N
group_next zorder left state entry hilbert N p h w l i =
    let k : ℕ = left - 6 in
    let n : ℕ = zorder / 2 ^ (2 * k) in
    let q : left ≡ 6 + k = omega arith in
    let up : ℕ → ℕ = λ j. level 2 (j + k) zorder in
    let E : ℕ = encode plane 6 state up in
    let a : bit_and entry 4095 ≡ E = digits_is n state entry h w ∙ encode_same plane 6 state (quadrants n) up (λ j g. level_up 2 j k zorder) in
    let s : entry / 4096 ≡ end plane 6 state up = end_is n state entry h w ∙ end_same plane 6 state (quadrants n) up (λ j g. level_up 2 j k zorder) in
    let t : (hilbert * 4096 + E) * 2 ^ (2 * k) + encode plane k (end plane 6 state up) (quadrants zorder) ≡ N =
    sym (group_turn plane 6 k state hilbert (quadrants zorder)) ∙ sym (ap (λ (m : ℕ). hilbert * 2 ^ (2 * m) + encode plane m state (quadrants zorder)) q) ∙ i
    in
    let b : hilbert * 4096 + E ≤ N = at_most (hilbert * 4096 + E) (2 * k) (encode plane k (end plane 6 state up) (quadrants zorder)) N t in
    let c : hilbert * 4096 % 2 ^ 64 ≡ hilbert * 4096 = omega arith in
    let m : E < 4096 = encode_lt plane plane_permutes 6 state up h (λ j. part_lt 2 (2 * (j + k)) zorder) in
    ap₂ (λ (x y : ℕ). x * 2 ^ (2 * k) + encode plane k y (quadrants zorder)) (ap₂ bit_or c a ∙ or_shifted hilbert 12 E m) s ∙ t

-- the last group, filled up with zero bits
pub group_last : (zorder left state entry hilbert N : ℕ) → left ≤ 6 → state < plane.states
    → entry ≡ group_entry plane 6 (4096 * state + zorder * 2 ^ (12 - 2 * left) % 4096)
    → N < 2 ^ 64 → hilbert * 2 ^ (2 * left) + encode plane left state (quadrants zorder) ≡ N
    → bit_or (hilbert * 2 ^ (2 * left) % 2 ^ 64) (bit_and entry 4095 / 2 ^ (12 - 2 * left)) ≡ N
group_last zorder left state entry hilbert N p h w l i =
    let r : ℕ = 6 - left in
    let n : ℕ = zorder * 2 ^ (12 - 2 * left) in
    let q : left + r ≡ 6 = omega arith in
    let u : 12 - 2 * left ≡ 2 * r = omega arith in
    let E : ℕ = encode plane left state (quadrants zorder) in
    let v : (j : ℕ) → j < left → level 2 (j + r) n ≡ level 2 j zorder =
    λ j g.
    ap (λ (x : ℕ). level 2 (j + r) (zorder * 2 ^ x)) u
    ∙ sym (level_up 2 j r (zorder * 2 ^ (2 * r)))
    ∙ ap (level 2 j) (shl-shr zorder (2 * r))
    in
    let a : bit_and entry 4095 / 2 ^ (12 - 2 * left) ≡ E =
    ap₂ (λ (x y : ℕ). x / 2 ^ y) (digits_is n state entry h w) u
    ∙ ap (λ (x : ℕ). encode plane x state (quadrants n) / 2 ^ (2 * r)) (sym q)
    ∙ padded plane plane_permutes left r state (quadrants n) h (λ j. part_lt 2 (2 * j) n)
    ∙ encode_same plane left state (λ j. quadrants n (j + r)) (quadrants zorder) v
    in
    let c : hilbert * 2 ^ (2 * left) % 2 ^ 64 ≡ hilbert * 2 ^ (2 * left) = mod-eq_of_lt (omega arith) in
    ap₂ bit_or c a ∙ or_shifted hilbert (2 * left) E (encode_lt plane plane_permutes left state (quadrants zorder) h (λ j. part_lt 2 (2 * j) zorder)) ∙ i
