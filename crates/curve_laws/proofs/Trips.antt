-- The round trips of two answers, on every input: what an encoder answers to a cell, the decoder answers with the cell, and what a decoder
-- answers to an index, the encoder answers with the index; a refusal is handed on. Assumes nothing.
use Prim.Native.Nat.{ℕ, ◌<◌}
use mathlib.Core.Path.{◌≡◌, sym, ap, ◌∙◌, subst}
use mathlib.Core.List.{List, [], ◌∷◌}
use lib.ListN.{get_or}
use Rattle.std.specs.Prelude.{Ok, Err}
use Rattle.rules.specs.Refusals.{top2, top3, encode_tests, decode_tests, answer_by}
use Rattle.rules.specs.Curve.{encode2, encode3, decode2, decode3}
use Rattle.rules.specs.declared.refusal.Refusal.{Refusal}
use Rattle.curve_laws.proofs.Refusals.{answers_alike, refuses_alike, index_taken, encode2_accepted, encode3_accepted}
use Rattle.curve_laws.proofs.Demand2.{power, decode_encode_2d, encode_decode_2d, decode_encode_3d, encode_decode_3d}

-- 2D

pub there_and_back2 : (x y order i : ℕ) → encode2 x y order ≡ Ok i → decode2 i order ≡ answer_by (encode_tests top2 order (x ∷ y ∷ [])) (x ∷ y ∷ [])
unfolding encode2
there_and_back2 x y order i e =
    let a = encode2_accepted x y order i e in
    let t = decode_encode_2d x y order a.order_at_most a.x_below a.y_below in
    let i-is : t.0 ≡ i = cc (t.1, e) in
    ap (λ (k : ℕ). decode2 k order) (sym i-is) ∙ t.2 ∙ sym (answers_alike (encode_tests top2 order (x ∷ y ∷ [])) _ i (x ∷ y ∷ []) e)

pub refusal_back2 : (x y order : ℕ) (r : Refusal) → encode2 x y order ≡ Err r → Err r ≡ answer_by (encode_tests top2 order (x ∷ y ∷ [])) (x ∷ y ∷ [])
unfolding encode2
refusal_back2 x y order r e = refuses_alike (encode_tests top2 order (x ∷ y ∷ [])) _ (x ∷ y ∷ []) r e

-- of an answer as it comes, a list of which x and y are taken
pub back_and_there2 : (i order : ℕ) (c : List ℕ) → decode2 i order ≡ Ok c
    → encode2 (get_or c 0 0) (get_or c 1 0) order ≡ answer_by (decode_tests 2 top2 order i) i
unfolding decode2
back_and_there2 i order c e =
    let a = index_taken 2 top2 order i _ c e in
    let t = encode_decode_2d i order a.0 (subst (λ (k : ℕ). i < k) (sym (power 2 order)) a.1) in
    let c-is : c ≡ t.0 ∷ t.1 ∷ [] = cc (t.2, e) in
    let found : encode2 (get_or c 0 0) (get_or c 1 0) order ≡ Ok i = rw c-is t.3 in
    found ∙ sym (answers_alike (decode_tests 2 top2 order i) _ c i e)

pub refusal_there2 : (i order : ℕ) (r : Refusal) → decode2 i order ≡ Err r → Err r ≡ answer_by (decode_tests 2 top2 order i) i
unfolding decode2
refusal_there2 i order r e = refuses_alike (decode_tests 2 top2 order i) _ i r e

-- 3D

pub there_and_back3 : (x y z order i : ℕ) → encode3 x y z order ≡ Ok i
    → decode3 i order ≡ answer_by (encode_tests top3 order (x ∷ y ∷ z ∷ [])) (x ∷ y ∷ z ∷ [])
unfolding encode3
there_and_back3 x y z order i e =
    let a = encode3_accepted x y z order i e in
    let t = decode_encode_3d x y z order a.order_at_most a.x_below a.y_below a.z_below in
    let i-is : t.0 ≡ i = cc (t.1, e) in
    ap (λ (k : ℕ). decode3 k order) (sym i-is) ∙ t.2 ∙ sym (answers_alike (encode_tests top3 order (x ∷ y ∷ z ∷ [])) _ i (x ∷ y ∷ z ∷ []) e)

pub refusal_back3 : (x y z order : ℕ) (r : Refusal) → encode3 x y z order ≡ Err r
    → Err r ≡ answer_by (encode_tests top3 order (x ∷ y ∷ z ∷ [])) (x ∷ y ∷ z ∷ [])
unfolding encode3
refusal_back3 x y z order r e = refuses_alike (encode_tests top3 order (x ∷ y ∷ z ∷ [])) _ (x ∷ y ∷ z ∷ []) r e

pub back_and_there3 : (i order : ℕ) (c : List ℕ) → decode3 i order ≡ Ok c
    → encode3 (get_or c 0 0) (get_or c 1 0) (get_or c 2 0) order ≡ answer_by (decode_tests 3 top3 order i) i
unfolding decode3
back_and_there3 i order c e =
    let a = index_taken 3 top3 order i _ c e in
    let t = encode_decode_3d i order a.0 (subst (λ (k : ℕ). i < k) (sym (power 3 order)) a.1) in
    let c-is : c ≡ t.0 ∷ t.1 ∷ t.2 ∷ [] = cc (t.3, e) in
    let found : encode3 (get_or c 0 0) (get_or c 1 0) (get_or c 2 0) order ≡ Ok i = rw c-is t.4 in
    found ∙ sym (answers_alike (decode_tests 3 top3 order i) _ c i e)

pub refusal_there3 : (i order : ℕ) (r : Refusal) → decode3 i order ≡ Err r → Err r ≡ answer_by (decode_tests 3 top3 order i) i
unfolding decode3
refusal_there3 i order r e = refuses_alike (decode_tests 3 top3 order i) _ i r e
