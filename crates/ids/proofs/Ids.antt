-- The ids that the code finds are those of the rules.
use Prim.Native.Nat.{ℕ, zero, suc, ◌*◌, ◌/◌, ◌%◌, ◌<◌, ◌≤◌}
use native.Mathlib.Omega.{arith}
use native.Mathlib.Nat.{mod-eq_of_lt, div-lt_iff_lt-mul}
use mathlib.Core.Path.{◌≡◌, refl, sym, ap, ◌∙◌}
use mathlib.Core.List.{List, [], ◌∷◌}
use lib.ListN.{take}
use Rattle.rules.specs.Sums.{list}
use Rattle.rules.specs.Grid.{coords, on}
use Rattle.rules.specs.Halving.{next_axis, walk, id_of, ids_of}
use Rattle.laws.proofs.Lists.{list_ext}
use Rattle.halving_laws.proofs.Ids.{next_lt}
use Rattle.blocks.specs.Blocks.{sides_of}
use Rattle.blocks.specs.declared.grid.Grid.{Grid}
use Rattle.blocks.proofs.AsBlocks.{three, axes_are, cells_are}
use Rattle.ids.specs.Ids.{id_on, id_at}

-- a cell's way looks at the coordinates on the axes alone
walk_same : (s : List ℕ) (n d a node id : ℕ) (xs ys : List ℕ) → a < n → ((i : ℕ) → i < n → on xs i ≡ on ys i)
    → walk s n d a node id xs ≡ walk s n d a node id ys
unfolding walk
walk_same s n zero a node id xs ys h e = refl
walk_same s n (suc d) a node id xs ys h e = rw (e a h) (walk_same s n d (next_axis n a) _ _ xs ys (next_lt n a h) e)

-- the coordinates of a cell, its layer counted, on the axes
on_axes : (n w h d c i : ℕ) → 0 < w → 0 < h → c < w * (h * d) → i < n → n ≤ 3 → on (c % w ∷ c / w % h ∷ c / w / h ∷ []) i ≡ on (coords (take n (w ∷ h ∷ d ∷ [])) c) i
unfolding coords
on_axes zero w h d c i p q l k f = absurd (omega arith)
on_axes (suc n) w h d c zero p q l k f = refl
on_axes (suc zero) w h d c (suc i) p q l k f = absurd (omega arith)
on_axes (suc (suc n)) w h d c (suc zero) p q l k f = refl
on_axes (suc (suc zero)) w h d c (suc (suc i)) p q l k f = absurd (omega arith)
on_axes (suc (suc (suc n))) w h d c (suc (suc zero)) p q l k f =
    let r : c / w < h * d = (div-lt_iff_lt-mul p).1 (omega arith) in
    let last : c / w / h < d = (div-lt_iff_lt-mul q).1 (omega arith) in
    sym (mod-eq_of_lt last)
on_axes (suc (suc (suc n))) w h d c (suc (suc (suc i))) p q l k f = absurd (omega arith)

pub all_ids : (g : Grid) (n : ℕ) (s : List ℕ) (first k : ℕ) → g.axes ≡ n → first < n → 0 < on g.sides 0 → 0 < on g.sides 1
    → list (id_at s n k first (on g.sides 0) (on g.sides 1)) (on g.sides 0 * (on g.sides 1 * on g.sides 2)) ≡ ids_of (sides_of g) first k s
unfolding ids_of id_at id_on id_of
all_ids g n s first k p a wide high =
    rw (cells_are g)
    (list_ext _ _ _
    (λ c l. rw (axes_are g, p) (walk_same s n k first 1 0 _ _ a
    (λ i q. on_axes n _ _ _ c i wide high l q (omega (arith, g.axes_fit)) ∙ ap (λ (sides : List ℕ). on (coords (take n sides) c) i) (sym (three g.sides g.three))))))
