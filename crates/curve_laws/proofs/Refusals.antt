-- What each encoder and decoder answers, by the tests that its input passes: one law for each way out, and back. Assumes nothing.
use Prim.Native.Nat.{ℕ, ◌*◌, ◌^◌, ◌≤◌, ◌<◌}
use mathlib.Core.Path.{◌≡◌, refl}
use mathlib.Core.Bool.{Bool, true, false}
use mathlib.Core.List.{List, [], ◌∷◌}
use native.Mathlib.Omega.{arith}
use lib.Dec.{leb, lit<}
use lib.ListN.{length, get_or}
use Rattle.std.specs.Prelude.{Result, Ok, Err, cond}
use Rattle.std.proofs.lemmas.Bool.{ltb-false, leb-false}
use borrow.Author.Tests.{lt-ltb, le-ltb, le-leb, lt-leb}
use Rattle.rules.specs.Sums.{any}
use Rattle.rules.specs.Refusals.{Test, top2, top3, encode_tests, decode_tests, answer_by}
use Rattle.rules.specs.Curve.{plane, space, cell2, cell3, index_of, coordinate_of, encode2, encode3, decode2, decode3}
use Rattle.rules.specs.declared.refusal.Refusal.{Refusal}
use Rattle.rules.specs.declared.refusal.Refusal.TheVariants.{Order, Coordinate, Index}
use Rattle.laws.proofs.Any.{none_at}
use Rattle.laws.proofs.Exactly.{none_passes}
use Rattle.laws.proofs.Readings.{answered_by}

-- an answer is a value or a refusal
pub never : {A : Type 0} {v : A} {n : Refusal} {r : Result A Refusal} → r ≡ Ok v → r ≡ Err n → ⊥
never p q = let z : ◌≡◌ {A = ℕ} 0 1 = cc in omega arith

-- tests that answer one value answer any other, and refuse all values alike
pub answers_alike : {A B : Type 0} (ts : List Test) (v u : A) (w : B) → answer_by ts v ≡ Ok u → answer_by ts w ≡ Ok w
answers_alike [] v u w e = refl
answers_alike (t ∷ ts) v u w e = go t.passes (answers_alike ts v u w) e
  where
    go : (b : Bool) → (answer_by ts v ≡ Ok u → answer_by ts w ≡ Ok w) → cond b (Err t.refusal) (answer_by ts v) ≡ Ok u
        → cond b (Err t.refusal) (answer_by ts w) ≡ Ok w
    go true f e = absurd (never e refl)
    go false f e = f e

pub refuses_alike : {A B : Type 0} (ts : List Test) (v : A) (w : B) (r : Refusal) → answer_by ts v ≡ Err r → Err r ≡ answer_by ts w
refuses_alike [] v w r e = absurd (never refl e)
refuses_alike (t ∷ ts) v w r e = go t.passes (refuses_alike ts v w r) e
  where
    go : (b : Bool) → (answer_by ts v ≡ Err r → Err r ≡ answer_by ts w) → cond b (Err t.refusal) (answer_by ts v) ≡ Err r
        → Err r ≡ cond b (Err t.refusal) (answer_by ts w)
    go true f e = cc
    go false f e = f e

-- an encoder
module _ {A : Type 0} (most order : ℕ) (xs : List ℕ) (value : A) where
  pub cell_order_refused : most < order → answer_by (encode_tests most order xs) value ≡ Err Order
  unfolding encode_tests
  cell_order_refused o = simp (lt-ltb _ _ o)

  pub cell_refused : order ≤ most → any (leb (2 ^ order)) xs ≡ true → answer_by (encode_tests most order xs) value ≡ Err Coordinate
  unfolding encode_tests
  cell_refused o e = simp (le-ltb _ _ o, e)

  pub cell_accepted : order ≤ most → any (leb (2 ^ order)) xs ≡ false → answer_by (encode_tests most order xs) value ≡ Ok value
  unfolding encode_tests
  cell_accepted o e = simp (le-ltb _ _ o, e)

  pub cell_taken : (v : A) → answer_by (encode_tests most order xs) value ≡ Ok v
      → (order ≤ most) × ((i : ℕ) → i < length xs → get_or xs i 0 < 2 ^ order)
  unfolding encode_tests
  cell_taken v e =
      let n = none_passes (encode_tests most order xs) (answered_by (encode_tests most order xs) value v e).0 in
      (ltb-false _ _ n.0, λ i h. leb-false _ _ (none_at (leb (2 ^ order)) 0 xs n.1.0 i h))

-- a decoder in d dimensions
module _ {A : Type 0} (d most order index : ℕ) (value : A) where
  pub order_refused : most < order → answer_by (decode_tests d most order index) value ≡ Err Order
  unfolding decode_tests
  order_refused o = simp (lt-ltb _ _ o)

  pub index_refused : order ≤ most → 2 ^ (d * order) ≤ index → answer_by (decode_tests d most order index) value ≡ Err Index
  unfolding decode_tests
  index_refused o p = simp (le-ltb _ _ o, le-leb _ _ p)

  pub index_accepted : order ≤ most → index < 2 ^ (d * order) → answer_by (decode_tests d most order index) value ≡ Ok value
  unfolding decode_tests
  index_accepted o p = simp (le-ltb _ _ o, lt-leb _ _ p)

  pub index_taken : (v : A) → answer_by (decode_tests d most order index) value ≡ Ok v → (order ≤ most) × (index < 2 ^ (d * order))
  unfolding decode_tests
  index_taken v e =
      let n = none_passes (decode_tests d most order index) (answered_by (decode_tests d most order index) value v e).0 in
      (ltb-false _ _ n.0, leb-false _ _ n.1.0)

-- the plane
module _ (x y order : ℕ) where
  pub encode2_index : order ≤ top2 → x < 2 ^ order → y < 2 ^ order → encode2 x y order ≡ Ok (index_of plane order (cell2 x y))
  unfolding encode2 encode_tests any
  encode2_index o p q = simp (le-ltb _ _ o, lt-leb _ _ p, lt-leb _ _ q)

  -- and back: a cell that has an index passed the tests
  pub record Accepted2 (i : ℕ) : Type 0 where
    pub order_at_most : order ≤ top2
    pub x_below : x < 2 ^ order
    pub y_below : y < 2 ^ order
    pub index_is : index_of plane order (cell2 x y) ≡ i

  pub encode2_accepted : (i : ℕ) → encode2 x y order ≡ Ok i → Accepted2 i
  unfolding encode2
  encode2_accepted i e =
      let t = cell_taken top2 order (x ∷ y ∷ []) _ i e in
      record { order_at_most = t.0; x_below = t.1 0 (lit< tt); y_below = t.1 1 (lit< tt); index_is = (answered_by (encode_tests top2 order (x ∷ y ∷ [])) _ i e).1 }

  -- of a cell that passed them beforehand
  pub passed_2d : {A : Type 0} (u v : A) → answer_by (encode_tests top2 order (x ∷ y ∷ [])) u ≡ Ok v → Accepted2 (index_of plane order (cell2 x y))
  passed_2d u v e =
      let t = cell_taken top2 order (x ∷ y ∷ []) u v e in
      record { order_at_most = t.0; x_below = t.1 0 (lit< tt); y_below = t.1 1 (lit< tt); index_is = refl }

  pub refused_2d : {A : Type 0} (u : A) (r : Refusal) → answer_by (encode_tests top2 order (x ∷ y ∷ [])) u ≡ Err r → Err r ≡ encode2 x y order
  unfolding encode2
  refused_2d u r e = refuses_alike (encode_tests top2 order (x ∷ y ∷ [])) u _ r e

pub decode2_cell : (index order : ℕ) → order ≤ top2 → index < 2 ^ (2 * order)
    → decode2 index order ≡ Ok (coordinate_of plane order index 1 ∷ coordinate_of plane order index 0 ∷ [])
unfolding decode2
decode2_cell index order = index_accepted 2 top2 order index _

-- space
module _ (x y z order : ℕ) where
  pub encode3_index : order ≤ top3 → x < 2 ^ order → y < 2 ^ order → z < 2 ^ order
      → encode3 x y z order ≡ Ok (index_of space order (cell3 x y z))
  unfolding encode3 encode_tests any
  encode3_index o p q r = simp (le-ltb _ _ o, lt-leb _ _ p, lt-leb _ _ q, lt-leb _ _ r)

  pub record Accepted3 (i : ℕ) : Type 0 where
    pub order_at_most : order ≤ top3
    pub x_below : x < 2 ^ order
    pub y_below : y < 2 ^ order
    pub z_below : z < 2 ^ order
    pub index_is : index_of space order (cell3 x y z) ≡ i

  pub encode3_accepted : (i : ℕ) → encode3 x y z order ≡ Ok i → Accepted3 i
  unfolding encode3
  encode3_accepted i e =
      let t = cell_taken top3 order (x ∷ y ∷ z ∷ []) _ i e in
      record {
        order_at_most = t.0;
        x_below = t.1 0 (lit< tt);
        y_below = t.1 1 (lit< tt);
        z_below = t.1 2 (lit< tt);
        index_is = (answered_by (encode_tests top3 order (x ∷ y ∷ z ∷ [])) _ i e).1;
      }

  pub passed_3d : {A : Type 0} (u v : A) → answer_by (encode_tests top3 order (x ∷ y ∷ z ∷ [])) u ≡ Ok v
      → Accepted3 (index_of space order (cell3 x y z))
  passed_3d u v e =
      let t = cell_taken top3 order (x ∷ y ∷ z ∷ []) u v e in
      record { order_at_most = t.0; x_below = t.1 0 (lit< tt); y_below = t.1 1 (lit< tt); z_below = t.1 2 (lit< tt); index_is = refl }

  pub refused_3d : {A : Type 0} (u : A) (r : Refusal) → answer_by (encode_tests top3 order (x ∷ y ∷ z ∷ [])) u ≡ Err r
      → Err r ≡ encode3 x y z order
  unfolding encode3
  refused_3d u r e = refuses_alike (encode_tests top3 order (x ∷ y ∷ z ∷ [])) u _ r e

pub decode3_cell : (index order : ℕ) → order ≤ top3 → index < 2 ^ (3 * order)
    → decode3 index order ≡ Ok (coordinate_of space order index 2 ∷ coordinate_of space order index 1 ∷ coordinate_of space order index 0 ∷ [])
unfolding decode3
decode3_cell index order = index_accepted 3 top3 order index _
