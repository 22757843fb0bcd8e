-- Nothing knows which axis is which: the mirror image of a grid in 2D, cut across the other axis first, has the grid's splits and the mirror image of its ids.
use Prim.Native.Nat.{ℕ, zero, suc, ◌+◌, ◌-◌, ◌*◌, ◌/◌, ◌%◌, ◌^◌, ◌≤◌, ◌<◌}
use native.Mathlib.Omega.{arith}
use native.Mathlib.Nat.{mod-eq_of_lt, mod-lt, div-lt_iff_lt-mul, mul-one, mul_comm, mul-suc, mul-le-mul_left}
use mathlib.Core.Path.{◌≡◌, refl, ap, ap₂, sym, fun_ext, ◌∙◌}
use mathlib.Core.Bool.{Bool, false, ◌&&◌, ◌||◌, and_comm, and-true}
use mathlib.Core.List.{List, [], ◌∷◌}
use lib.Dec.{ltb}
use lib.ListN.{get_or, length}
use borrow.Author.Tests.{le-ltb}
use Rattle.rules.specs.Sums.{pick, any, total, list}
use Rattle.rules.specs.Grid.{cells, coords, Range, whole, inside, within, edge, side, before, after, weight, line}
use Rattle.rules.specs.Refusals.{top_weight, top_cells, side_unfit, sides_unfit, lengths_off, weight_over, first_unknown, grid_tests}
use Rattle.rules.specs.Halving.{Edition, edition_of, cut_of, cut_at, next_axis, unless_flat, fill, splits_of, walk, id_of, ids_of, Halved, halving2, splits_by, halving_tests, refusal_of, halve}
use Rattle.rules.specs.declared.Halving2.{Halving2}
use Rattle.laws.proofs.Any.{neither, none}
use Rattle.laws.proofs.Exactly.{exactly, none_passes}
use Rattle.laws.proofs.Lists.{length_list, list_ext, get_or_list}
use Rattle.halving_laws.specs.Mirror.{other, mirror_halving, mirror_cells}
use Rattle.laws.proofs.Totals.{total_ext, total_swap}
use Rattle.halving_laws.proofs.Nested.{total_rows, place_in_row, row_of_place, thin, line_is_thin}
use Rattle.halving_laws.proofs.Accepted.{accepted}
use Rattle.halving_laws.proofs.Answers.{answered}

-- CELLS: cell (x, y) of w by h stands at x + w * y

place_below : (w h x y : ℕ) → x < w → y < h → x + w * y < w * h
place_below w h x y l m = omega (arith, mul-suc w y, row)
  where
    row : w * suc y ≤ w * h
    row = mul-le-mul_left w m

coords_of : (w h x y : ℕ) → x < w → y < h → coords (w ∷ h ∷ []) (x + w * y) ≡ x ∷ y ∷ []
unfolding coords
coords_of w h x y l m = ap₂ (λ (i j : ℕ). i ∷ j ∷ []) (place_in_row w x y l) (ap (λ (k : ℕ). k % h) (row_of_place w x y l) ∙ mod-eq_of_lt m)

all_cells : (w h : ℕ) → cells (w ∷ h ∷ []) ≡ w * h
unfolding cells
all_cells w h = ap (λ (n : ℕ). w * n) (mul-one h)

-- a grid that has a cell has a row
positive : (w h c : ℕ) → c < w * h → 0 < h
positive w zero c l = omega arith
positive w (suc h) c l = omega arith

module _ (w h : ℕ) (xs : List ℕ) where
  pub mirror_length : length (mirror_cells w h xs) ≡ w * h
  unfolding mirror_cells
  mirror_length = length_list _ (w * h)

  pub mirror_cell : (x y : ℕ) → x < w → y < h → get_or (mirror_cells w h xs) (y + h * x) 0 ≡ get_or xs (x + w * y) 0
  unfolding mirror_cells
  mirror_cell x y l m =
      get_or_list _ (w * h) (y + h * x) 0 (omega (arith, place_below h w y x m l, mul_comm w h))
      ∙ ap₂ (λ (i j : ℕ). get_or xs (i + w * j) 0) (row_of_place h y x m) (place_in_row h y x m)

-- WEIGHTS

-- of a block, row by row
weight_rows : (w h : ℕ) (ws : List ℕ) (r t : Range)
    → weight (w ∷ h ∷ []) ws (r ∷ t ∷ []) ≡ total (λ y. total (λ x. pick (within r x && within t y) (get_or ws (x + w * y) 0) 0) w) h
unfolding weight inside
weight_rows w h ws r t =
    ap (total _) (all_cells w h) ∙ total_rows _ w h
    ∙ total_ext _ _ h (λ y m. total_ext _ _ w (λ x l.
    ap (λ (c : List ℕ). pick (inside (r ∷ t ∷ []) c) (get_or ws (x + w * y) 0) 0) (coords_of w h x y l m)
    ∙ ap (λ (b : Bool). pick (within r x && b) (get_or ws (x + w * y) 0) 0) (and-true (within t y))))

module _ (w h : ℕ) (ws : List ℕ) where
  mirror_weight : (r t : Range) → weight (h ∷ w ∷ []) (mirror_cells w h ws) (t ∷ r ∷ []) ≡ weight (w ∷ h ∷ []) ws (r ∷ t ∷ [])
  mirror_weight r t =
      weight_rows h w (mirror_cells w h ws) t r
      ∙ total_ext _ _ w (λ x l. total_ext _ _ h (λ y m. ap₂ (λ (b : Bool) (v : ℕ). pick b v 0) (and_comm (within t y) (within r x)) (mirror_cell w h ws x y l m)))
      ∙ total_swap (λ x y. pick (within r x && within t y) (get_or ws (x + w * y) 0) 0) w h
      ∙ sym (weight_rows w h ws r t)

  mirror_line : (a : ℕ) (r t : Range) (j : ℕ) → a < 2
      → line (h ∷ w ∷ []) (mirror_cells w h ws) (t ∷ r ∷ []) (other a) j ≡ line (w ∷ h ∷ []) ws (r ∷ t ∷ []) a j
  unfolding other thin before after
  mirror_line zero r t j l = line_is_thin _ _ _ 1 j (omega arith) ∙ mirror_weight _ _ ∙ sym (line_is_thin _ _ _ 0 j (omega arith))
  mirror_line (suc zero) r t j l = line_is_thin _ _ _ 0 j (omega arith) ∙ mirror_weight _ _ ∙ sym (line_is_thin _ _ _ 1 j (omega arith))
  mirror_line (suc (suc a)) r t j l = absurd (omega arith)

  -- SPLITS

  module _ (e : Edition) where
    mirror_cut : (a : ℕ) (r t : Range) → a < 2 → cut_at e (h ∷ w ∷ []) (mirror_cells w h ws) (other a) (t ∷ r ∷ []) ≡ cut_at e (w ∷ h ∷ []) ws a (r ∷ t ∷ [])
    unfolding cut_at other edge side
    mirror_cut zero r t l =
        ap₂ (λ (f : ℕ → ℕ) (v : ℕ). r.low + cut_of f (r.high - r.low) (e.lo v) (e.hi v)) (fun_ext (λ i. mirror_line 0 r t (r.low + i) l)) (mirror_weight r t)
    mirror_cut (suc zero) r t l =
        ap₂ (λ (f : ℕ → ℕ) (v : ℕ). t.low + cut_of f (t.high - t.low) (e.lo v) (e.hi v)) (fun_ext (λ i. mirror_line 1 r t (t.low + i) l)) (mirror_weight r t)
    mirror_cut (suc (suc a)) r t l = absurd (omega arith)

    mirror_fill : (d a : ℕ) (r t : Range) (node : ℕ) (s : List ℕ) → a < 2
        → fill e (h ∷ w ∷ []) (mirror_cells w h ws) d (other a) (t ∷ r ∷ []) node s ≡ fill e (w ∷ h ∷ []) ws d a (r ∷ t ∷ []) node s
    unfolding fill other side before after next_axis
    mirror_fill zero a r t node s l = refl
    mirror_fill (suc d) zero r t node s l =
        rw (mirror_cut 0 r t l) (ap (unless_flat (r.high - r.low) s) (mirror_fill d 1 _ _ _ _ (omega arith) ∙ ap (fill e (w ∷ h ∷ []) ws d 1 _ _) (mirror_fill d 1 _ _ _ _ (omega arith))))
    mirror_fill (suc d) (suc zero) r t node s l =
        rw (mirror_cut 1 r t l) (ap (unless_flat (t.high - t.low) s) (mirror_fill d 0 _ _ _ _ (omega arith) ∙ ap (fill e (w ∷ h ∷ []) ws d 0 _ _) (mirror_fill d 0 _ _ _ _ (omega arith))))
    mirror_fill (suc d) (suc (suc a)) r t node s l = absurd (omega arith)

-- IDS

mirror_walk : (s : List ℕ) (d a node id x y : ℕ) → a < 2 → walk s 2 d (other a) node id (y ∷ x ∷ []) ≡ walk s 2 d a node id (x ∷ y ∷ [])
unfolding walk other next_axis
mirror_walk s zero a node id x y l = refl
mirror_walk s (suc d) zero node id x y l = mirror_walk s d 1 _ _ x y (omega arith)
mirror_walk s (suc d) (suc zero) node id x y l = mirror_walk s d 0 _ _ x y (omega arith)
mirror_walk s (suc d) (suc (suc a)) node id x y l = absurd (omega arith)

mirror_ids : (w h first k : ℕ) (s : List ℕ) → first < 2 → ids_of (h ∷ w ∷ []) (other first) k s ≡ mirror_cells w h (ids_of (w ∷ h ∷ []) first k s)
unfolding ids_of id_of coords mirror_cells
mirror_ids w h first k s l =
    ap (list _) (all_cells h w ∙ mul_comm h w) ∙ list_ext _ _ (w * h) (λ c m. one c m)
  where
    one : (c : ℕ) → c < w * h → id_of (h ∷ w ∷ []) (other first) k s c ≡ get_or (list (id_of (w ∷ h ∷ []) first k s) (cells (w ∷ h ∷ []))) (c / h + w * (c % h)) 0
    one c m =
        let some : 0 < h = positive w h c m in
        let x : c / h < w = (div-lt_iff_lt-mul some).1 m in
        let y : c % h < h = mod-lt c some in
        ap (λ (i : ℕ). walk s 2 k (other first) 1 0 (c % h ∷ i ∷ [])) (mod-eq_of_lt x)
        ∙ mirror_walk s k first 1 0 (c / h) (c % h) l
        ∙ sym (get_or_list _ (cells (w ∷ h ∷ [])) _ 0 (omega (arith, place_below w h (c / h) (c % h) x y, all_cells w h))
        ∙ ap (walk s 2 k first 1 0) (coords_of w h (c / h) (c % h) x y))

-- THE CALL

other_below : (first : ℕ) → first < 2 → first_unknown 2 (other first) ≡ false
unfolding other
other_below zero l = refl
other_below (suc zero) l = refl
other_below (suc (suc first)) l = absurd (omega arith)

module _ (w h : ℕ) where
  same_cells : cells (h ∷ w ∷ []) ≡ cells (w ∷ h ∷ [])
  same_cells = all_cells h w ∙ mul_comm h w ∙ sym (all_cells w h)

  mirror_sides : sides_unfit (w ∷ h ∷ []) ≡ false → sides_unfit (h ∷ w ∷ []) ≡ false
  unfolding any
  mirror_sides e =
      let t = neither (any side_unfit (w ∷ h ∷ [])) (ltb top_cells (cells (w ∷ h ∷ []))) e in
      let wide = neither (side_unfit w) (side_unfit h || false) t.0 in
      let high = neither (side_unfit h) false wide.1 in
      ap₂ ◌||◌ (ap₂ ◌||◌ high.0 (ap₂ ◌||◌ wide.0 refl)) (ap (ltb top_cells) same_cells ∙ t.1)

  mirror_light : (ws : List ℕ) → length ws ≡ cells (w ∷ h ∷ []) → ((c : ℕ) → c < length ws → get_or ws c 0 ≤ top_weight) → weight_over (mirror_cells w h ws) ≡ false
  unfolding mirror_cells
  mirror_light ws long light =
      none (ltb top_weight) 0 _ (λ c l. one c (omega (arith, length_list (λ c. get_or ws (c / h + w * (c % h)) 0) (w * h))))
    where
      one : (c : ℕ) → c < w * h → ltb top_weight (get_or (list (λ c. get_or ws (c / h + w * (c % h)) 0) (w * h)) c 0) ≡ false
      one c m =
          let some : 0 < h = positive w h c m in
          let p = place_below w h (c / h) (c % h) ((div-lt_iff_lt-mul some).1 m) (mod-lt c some) in
          ap (ltb top_weight) (get_or_list _ (w * h) c 0 m) ∙ le-ltb top_weight _ (light _ (omega (arith, long, all_cells w h)))

-- the mirror image of a call that is not refused passes every test
mirror_fits : (h : Halving2) (ws splits ids : List ℕ) → refusal_of (halving2 h) ws splits ids ≡ 0
    → refusal_of (halving2 (mirror_halving h)) (mirror_cells h.width h.height ws) splits ids ≡ 0
unfolding grid_tests
mirror_fits h ws splits ids e =
    let passed = none_passes (halving_tests (halving2 h) ws splits ids) e in
    let r = accepted (halving2 h) ws splits ids e in
    let long = mirror_length h.width h.height ws ∙ sym (all_cells h.width h.height) ∙ sym r.weights_long in
    (exactly (halving_tests (halving2 (mirror_halving h)) (mirror_cells h.width h.height ws) splits ids)).none (
      passed.0,
      (
        other_below h.first r.first_fits,
        (
          mirror_sides h.width h.height passed.1.1.0,
          (
            passed.1.1.1.0,
            (
              ap₂ (λ (n m : ℕ). lengths_off n (m ∷ length ids ∷ []) || lengths_off (2 ^ h.depth - 1) (length splits ∷ [])) (same_cells h.width h.height) long
                  ∙ passed.1.1.1.1.0,
              (mirror_light h.width h.height ws r.weights_long r.light, tt),
            ),
          ),
        ),
      ),
    )

pub mirror : (h : Halving2) (ws splits ids : List ℕ) → refusal_of (halving2 h) ws splits ids ≡ 0
    → let r : Halved = halve (halving2 h) ws splits ids in
    halve (halving2 (mirror_halving h)) (mirror_cells h.width h.height ws) splits ids
    ≡ record { number = 0; splits = r.splits; ids = mirror_cells h.width h.height r.ids }
unfolding splits_of whole
mirror h ws splits ids e =
    let image : List ℕ = mirror_cells h.width h.height ws in
    let first = (accepted (halving2 h) ws splits ids e).first_fits in
    let s : splits_by (halving2 (mirror_halving h)) image ≡ splits_by (halving2 h) ws = mirror_fill h.width h.height ws (edition_of h.edition) h.depth h.first _ _ 1 _ first in
    answered (halving2 (mirror_halving h)) image splits ids (mirror_fits h ws splits ids e)
    ∙ ap (λ (s : List ℕ). record { number = 0; splits = s; ids = ids_of (h.height ∷ h.width ∷ []) (other h.first) h.depth s }) s
    ∙ ap (λ (i : List ℕ). record { number = 0; splits = splits_by (halving2 h) ws; ids = i }) (mirror_ids h.width h.height h.first h.depth (splits_by (halving2 h) ws) first)
    ∙ ap (λ (r : Halved). record { number = 0; splits = r.splits; ids = mirror_cells h.width h.height r.ids }) (sym (answered (halving2 h) ws splits ids e))
