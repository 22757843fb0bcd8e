-- No two cells share an index: each is what its index decodes to. Assumes nothing.
use Prim.Native.Nat.{ℕ, ◌^◌, ◌<◌}
use mathlib.Core.Path.{◌≡◌, sym, ap, ◌∙◌}
use lib.Dec.{T, lit<}
use Rattle.std.specs.Prelude.{Ok}
use Rattle.rules.specs.Curve.{Machine, plane, space, cell2, cell3, index_of, coordinate_of, encode2, encode3}
use Rattle.curve_laws.proofs.Permutes.{permutes, plane_permutes, plane_start, space_permutes, space_start}
use Rattle.curve_laws.proofs.RoundTrip.{decode-encode}
use Rattle.curve_laws.proofs.Refusals.{encode2_accepted, encode3_accepted}

-- in d dimensions: two cells with one index have the same coordinate on each axis on which both lie below 2^order
pub no_two_cells_share_an_index : {d : ℕ} (M : Machine d) → T (permutes M) → 0 < M.states → (order : ℕ) (b c : ℕ → ℕ)
    → index_of M order b ≡ index_of M order c → (e : ℕ) → e < d → b e < 2 ^ order → c e < 2 ^ order → b e ≡ c e
no_two_cells_share_an_index M t start order b c i e h p q =
    sym (decode-encode M t start order b e h p) ∙ ap (λ (n : ℕ). coordinate_of M order n e) i ∙ decode-encode M t start order c e h q

-- 2D: cells that the encoder answers with one index
pub no_two_cells_share_an_index_2d : (x y u v order i : ℕ) → encode2 x y order ≡ Ok i → encode2 u v order ≡ Ok i → (x ≡ u) × (y ≡ v)
no_two_cells_share_an_index_2d x y u v order i m n =
    let a = encode2_accepted x y order i m in
    let b = encode2_accepted u v order i n in
    let same = no_two_cells_share_an_index plane plane_permutes plane_start order (cell2 x y) (cell2 u v) (a.index_is ∙ sym b.index_is) in
    (same 1 (lit< tt) a.x_below b.x_below, same 0 (lit< tt) a.y_below b.y_below)

-- 3D likewise
pub no_two_cells_share_an_index_3d : (x y z u v w order i : ℕ) → encode3 x y z order ≡ Ok i → encode3 u v w order ≡ Ok i
    → (x ≡ u) × (y ≡ v) × (z ≡ w)
no_two_cells_share_an_index_3d x y z u v w order i m n =
    let a = encode3_accepted x y z order i m in
    let b = encode3_accepted u v w order i n in
    let same = no_two_cells_share_an_index space space_permutes space_start order (cell3 x y z) (cell3 u v w) (a.index_is ∙ sym b.index_is) in
    (same 2 (lit< tt) a.x_below b.x_below, same 1 (lit< tt) a.y_below b.y_below, same 0 (lit< tt) a.z_below b.z_below)
