-- The first of two tests of a machine: in each row the digits are a permutation of the quadrants, `undo` is its inverse, and each next state is a
-- state. The 2D and the 3D machine pass it. Assumes nothing.
use Prim.Native.Nat.{ℕ, ◌^◌, ◌<◌}
use mathlib.Core.Path.{◌≡◌}
use mathlib.Core.Bool.{Bool, ◌&&◌}
use lib.Dec.{T, ltb, ltb→lt, eqb, eqb→eq, lit<}
use Rattle.rules.specs.Sums.{pick, all_below}
use Rattle.rules.specs.Curve.{Machine, seek_digit, undo, digit_table, next_table, plane, octant_table, space}
use Rattle.curve_laws.proofs.All.{left, right, all-at}

abbrev pub sound : {d : ℕ} → Machine d → ℕ → ℕ → Bool
sound {d} M s q =
    ltb (M.digit s q) (2 ^ d) && ltb (M.next s q) M.states
    && (ltb (undo M s q) (2 ^ d) && (eqb (undo M s (M.digit s q)) q && eqb (M.digit s (undo M s q)) q))

abbrev pub permutes : {d : ℕ} → Machine d → Bool
permutes {d} M = all_below M.states (λ s. all_below (2 ^ d) (sound M s))

-- what the test says of a state and a quadrant, or a digit
pub record Sound {d : ℕ} (M : Machine d) (s q : ℕ) : Type 0 where
  pub digit_lt : M.digit s q < 2 ^ d
  pub next_lt : M.next s q < M.states
  pub undo_lt : undo M s q < 2 ^ d
  pub undone : undo M s (M.digit s q) ≡ q
  pub redone : M.digit s (undo M s q) ≡ q

pub row : {d : ℕ} (M : Machine d) → T (permutes M) → (s q : ℕ) → s < M.states → q < 2 ^ d → Sound M s q
row {d} M t s q p h =
    let a : Bool = ltb (M.digit s q) (2 ^ d) in
    let b : Bool = ltb (M.next s q) M.states in
    let c : Bool = ltb (undo M s q) (2 ^ d) in
    let u : Bool = eqb (undo M s (M.digit s q)) q in
    let v : Bool = eqb (M.digit s (undo M s q)) q in
    let w : T (a && b && (c && (u && v))) = all-at (2 ^ d) (sound M s) (all-at M.states (λ s. all_below (2 ^ d) (sound M s)) t s p) q h in
    let l : T (a && b) = left (a && b) (c && (u && v)) w in
    let r : T (c && (u && v)) = right (a && b) (c && (u && v)) w in
    let m : T (u && v) = right c (u && v) r in
    record {
      digit_lt = ltb→lt _ _ (left a b l);
      next_lt = ltb→lt _ _ (right a b l);
      undo_lt = ltb→lt _ _ (left c (u && v) r);
      undone = eqb→eq _ _ (left u v m);
      redone = eqb→eq _ _ (right u v m);
    }

pub plane_permutes : T (permutes plane)
unfolding pick digit_table next_table plane seek_digit undo
plane_permutes = tt

pub space_permutes : T (permutes space)
unfolding pick octant_table space seek_digit undo
space_permutes = tt

-- state 0, in which a call starts, is a state
pub plane_start : 0 < plane.states
unfolding plane
plane_start = lit< tt

pub space_start : 0 < space.states
unfolding space
space_start = lit< tt
