-- Laws of lists made by index. Assumes nothing.
use Prim.Native.Nat.{ℕ, zero, suc, ◌+◌, ◌≤◌, ◌<◌}
use native.Mathlib.Omega.{arith}
use native.Mathlib.Numerals.{add-one}
use native.Mathlib.Nat.{add-zero, add-suc, eq-or-lt_of_le}
use mathlib.Core.Logic.{⊎_elim}
use mathlib.Core.Path.{◌≡◌, refl, ap₂, sym, ◌∙◌}
use mathlib.Core.List.{List, [], ◌∷◌, ◌++◌, append_assoc, append-nil}
use lib.ListN.{length, get_or, drop, set, length-append, get_or-append}
use lib.Seq.{get_or_at, drop-cons, set_at}
use Rattle.rules.specs.Sums.{list}

pub length_list : (f : ℕ → ℕ) (n : ℕ) → length (list f n) ≡ n
unfolding list
length_list f zero = refl
length_list f (suc n) = length-append (list f n) (f n ∷ []) ∙ omega (arith, length_list f n)

pub list_ext : (f g : ℕ → ℕ) (n : ℕ) → ((i : ℕ) → i < n → f i ≡ g i) → list f n ≡ list g n
unfolding list
list_ext f g zero h = refl
list_ext f g (suc n) h = ap₂ (λ (l : List ℕ) (v : ℕ). l ++ (v ∷ [])) (list_ext f g n (λ i l. h i (omega arith))) (h n (omega arith))

-- a list in two parts
pub list_split : (f : ℕ → ℕ) (m n : ℕ) → list f (m + n) ≡ list f m ++ list (λ i. f (m + i)) n
unfolding list
list_split f m zero = rw add-zero (sym (append-nil (list f m)))
list_split f m (suc n) = rw (add-suc, list_split f m n) (append_assoc (list f m) (list (λ i. f (m + i)) n) (f (m + n) ∷ []))

pub get_or_list : (f : ℕ → ℕ) (n i d : ℕ) → i < n → get_or (list f n) i d ≡ f i
unfolding list
get_or_list f zero i d h = omega arith
get_or_list f (suc n) i d h =
    ⊎_elim (λ (e : i ≡ n). rw e (get_or_at (list f n) (f n) [] d n (length_list f n)))
    (λ (l : i < n). get_or-append (list f n) (f n ∷ []) d i (rw (length_list f n) l) ∙ get_or_list f n i d l)
    (eq-or-lt_of_le (at_most h))
  where
    at_most : i < suc n → i ≤ n
    at_most h = omega arith

-- one more element written where it lies
pub list_more : (f : ℕ → ℕ) (l : List ℕ) (i : ℕ) → i < length l → set (list f i ++ drop i l) i (f i) ≡ list f (i + 1) ++ drop (i + 1) l
unfolding list
list_more f l i h =
    rw (drop-cons l i 0 h, set_at (list f i) (get_or l i 0) (drop (suc i) l) (f i) i (length_list f i), add-one i, append_assoc) refl
