-- Laws of elements and rows written where they lie.
use Prim.Native.Nat.{ℕ, ◌+◌, ◌-◌, ◌*◌, ◌/◌, ◌%◌, ◌≤◌, ◌<◌}
use native.Mathlib.Omega.{arith}
use native.Mathlib.Nat.{add-zero, mul-add-mod_self_left, mul-add-div, mod-eq_of_lt, div-eq_of_lt}
use mathlib.Core.Path.{◌≡◌, ap, ap₂, sym, ◌∙◌}
use mathlib.Core.List.{List, ◌++◌, append_assoc}
use lib.ListN.{length, take, drop}
use lib.Seq.{take_at, drop-append-add, drop-drop}
use borrow.Rule.Slice.PartMut.{put_mid, Post-is}
use Rattle.rules.specs.Sums.{list}
use Rattle.laws.proofs.Lists.{length_list, list_ext, list_split}
use Rattle.ids.specs.Ids.{id_on, id_at}

drop_past : (g l : List ℕ) (n w : ℕ) → length g ≡ n → drop (n + w) (g ++ drop n l) ≡ drop (n + w) l
drop_past g l n w e = rw (← e) (drop-append-add g (drop (length g) l) w ∙ drop-drop w (length g) l)

-- one more row of w elements, written where it lies
pub row_more : (f : ℕ → ℕ) (w q : ℕ) (ids₀ ids row : List ℕ) → w * q + w ≤ length ids₀ → ids ≡ list f (w * q) ++ drop (w * q) ids₀
    → row ≡ list (λ i. f (w * q + i)) w
    → put_mid (w * q) (w * q + w - w * q) ids row ≡ list f (w * (q + 1)) ++ drop (w * (q + 1)) ids₀
row_more f w q ids₀ ids row h e r =
    let g = list f (w * q) in
    let lg : length g ≡ w * q = length_list f (w * q) in
    let t : take (w * q) ids ≡ g = rw e (take_at g (drop (w * q) ids₀) (w * q) lg) in
    let dr : drop (w * q + w) ids ≡ drop (w * q + w) ids₀ = rw e (drop_past g ids₀ (w * q) w lg) in
    let m : w * (q + 1) ≡ w * q + w = omega arith in
    rw (Post-is (w * q) (w * q + w) ids (omega arith), t, dr, r, m, list_split f (w * q) w)
    (sym (append_assoc g (list (λ i. f (w * q + i)) w) (drop (w * q + w) ids₀)))

-- row q holds the ids of the cells from w * q on
pub row_is : (s : List ℕ) (n k first w h q : ℕ) → 0 < w
    → list (λ x. id_on s n k first x (q % h) (q / h)) w ≡ list (λ i. id_at s n k first w h (w * q + i)) w
unfolding id_at
row_is s n k first w h q p = list_ext _ _ w (λ i l. ap₂ (λ (x r : ℕ). id_on s n k first x (r % h) (r / h)) (sym (here i l)) (sym (there i l)))
  where
    here : (i : ℕ) → i < w → (w * q + i) % w ≡ i
    here i l = mul-add-mod_self_left w q i ∙ mod-eq_of_lt l

    there : (i : ℕ) → i < w → (w * q + i) / w ≡ q
    there i l = mul-add-div p q i ∙ ap (λ (k : ℕ). q + k) (div-eq_of_lt l) ∙ add-zero q
