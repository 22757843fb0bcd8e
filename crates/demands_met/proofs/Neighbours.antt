-- REQUEST 13/14 of the functions: whatever fits the contract of a decoder at an index and whatever fits it at the next are neighbouring cells; what
-- fits it at index 0 and at the last index are the curve's ends. Assumes nothing.
use Prim.Native.Nat.{ℕ, ◌+◌, ◌-◌, ◌^◌, ◌≤◌, ◌<◌}
use mathlib.Core.Path.{◌≡◌}
use mathlib.Core.List.{[], ◌∷◌}
use Rattle.std.specs.Prelude.{Ok}
use Rattle.rules.specs.Refusals.{top2, top3}
use Rattle.rules.specs.Demands.{Beside2, Beside3}
use Rattle.demands.proofs.Neighbours.{demand_neighbours_2d, demand_ends_2d, demand_neighbours_3d, demand_ends_3d}
use Rattle.laws.proofs.Fitting.{Fitting}
use Rattle.curve.proofs.decode_2d.Kinds as decode-2d-kinds
use Rattle.curve.proofs.decode_2d.Reads as decode-2d-reads
use Rattle.curve.proofs.decode_3d.Kinds as decode-3d-kinds
use Rattle.curve.proofs.decode_3d.Reads as decode-3d-reads

-- decode_2d(index, order), then decode_2d(index + 1, order)
pub decode_2d_neighbours : Fitting decode-2d-kinds.ps decode-2d-kinds.r decode-2d-reads.Post
    (λ κs a c e. a.1.0 ≤ top2 → a.0 + 1 < 4 ^ a.1.0 → Fitting decode-2d-kinds.ps decode-2d-kinds.r decode-2d-reads.Post
    (λ ιs b k f. b.0 ≡ a.0 + 1 → b.1.0 ≡ a.1.0 → Beside2 c k))
decode_2d_neighbours κs a c e p m u ιs b k f q g h = rw (p, q, g, h) (demand_neighbours_2d a.0 a.1.0 m u)

-- decode_3d(index, order), then decode_3d(index + 1, order)
pub decode_3d_neighbours : Fitting decode-3d-kinds.ps decode-3d-kinds.r decode-3d-reads.Post
    (λ κs a c e. a.1.0 ≤ top3 → a.0 + 1 < 8 ^ a.1.0 → Fitting decode-3d-kinds.ps decode-3d-kinds.r decode-3d-reads.Post
    (λ ιs b k f. b.0 ≡ a.0 + 1 → b.1.0 ≡ a.1.0 → Beside3 c k))
decode_3d_neighbours κs a c e p m u ιs b k f q g h = rw (p, q, g, h) (demand_neighbours_3d a.0 a.1.0 m u)

-- decode_2d(index, order) at the first index, and at the last
pub decode_2d_ends : Fitting decode-2d-kinds.ps decode-2d-kinds.r decode-2d-reads.Post
    (λ κs a c e. a.1.0 ≤ top2 → (a.0 ≡ 0 → c ≡ Ok (0 ∷ 0 ∷ [])) × (a.0 ≡ 4 ^ a.1.0 - 1 → c ≡ Ok ((2 ^ a.1.0 - 1) ∷ 0 ∷ [])))
decode_2d_ends κs a c e p m = let d = demand_ends_2d a.1.0 m in (λ h. rw (p, h) d.0, λ h. rw (p, h) d.1)

-- decode_3d(index, order) at the first index, and at the last
pub decode_3d_ends : Fitting decode-3d-kinds.ps decode-3d-kinds.r decode-3d-reads.Post
    (λ κs a c e. a.1.0 ≤ top3 → (a.0 ≡ 0 → c ≡ Ok (0 ∷ 0 ∷ 0 ∷ [])) × (a.0 ≡ 8 ^ a.1.0 - 1 → c ≡ Ok ((2 ^ a.1.0 - 1) ∷ 0 ∷ 0 ∷ [])))
decode_3d_ends κs a c e p m = let d = demand_ends_3d a.1.0 m in (λ h. rw (p, h) d.0, λ h. rw (p, h) d.1)
