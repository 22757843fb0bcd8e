-- Sums with a test are nested sums: what the code's loops add up is the weight of a block or of a line.
use Prim.Native.Nat.{ℕ, zero, suc, ◌+◌, ◌-◌, ◌*◌, ◌/◌, ◌%◌, ◌≤◌, ◌<◌, min}
use native.Mathlib.Omega.{arith}
use native.Mathlib.Nat.{mul-suc, add-mul-mod_self_left, mod-eq_of_lt, add-mul-div_left, div-eq_of_lt, zero-add}
use native.Mathlib.Decide.{dec_le, dec_lt}
use mathlib.Core.Path.{◌≡◌, refl, ap, ap₂, sym, ◌∙◌}
use mathlib.Core.Bool.{Bool, true, false, ◌&&◌, not, and-true, and-false}
use mathlib.Core.List.{List, [], ◌∷◌}
use lib.Dec.{ltb, eqb}
use lib.ListN.{get_or, length}
use borrow.Author.Tests.{le-leb, lt-leb, lt-ltb, le-ltb, ltb-true, ltb-false, eq-eqb, eqb-true, not-true}
use Rattle.rules.specs.Sums.{pick, total, sum_where}
use Rattle.rules.specs.Grid.{cells, coords, on, Range, Block, inside, within, before, after, weight, line}
use Rattle.laws.proofs.Totals.{total_ext, total_split, total-zero, where_ext}
use Rattle.halving_laws.proofs.Blocks.{both, same_test, before_length, inside_before, inside_after}

-- a sum over a table, row by row
pub total_rows : (f : ℕ → ℕ) (s n : ℕ) → total f (s * n) ≡ total (λ q. total (λ x. f (x + s * q)) s) n
unfolding total
total_rows f s zero = let e : s * 0 ≡ 0 = omega arith in rw e
total_rows f s (suc n) =
    ap (total f) (mul-suc s n) ∙ total_split f (s * n) s
    ∙ ap₂ ◌+◌ (total_rows f s n) (total_ext _ _ s (λ x l. ap f (omega arith)))

-- a sum over the numbers of a range that are below n
total_range_to : (f : ℕ → ℕ) (r : Range) (n : ℕ) → sum_where (within r) f n ≡ total (λ i. f (r.low + i)) (min n r.high - r.low)
unfolding total pick
total_range_to f r zero = let e : min 0 r.high - r.low ≡ 0 = omega arith in rw e
total_range_to f r (suc n) = go (dec_le r.low n) (dec_lt n r.high) (total_range_to f r n)
  where
    g : ℕ → ℕ
    g i = f (r.low + i)

    go : Dec (r.low ≤ n) → Dec (n < r.high) → sum_where (within r) f n ≡ total g (min n r.high - r.low)
        → total (λ c. pick (within r c) (f c) 0) n + pick (within r n) (f n) 0 ≡ total g (min (suc n) r.high - r.low)
    go (yes p) (yes q) ih =
        let e : min (suc n) r.high - r.low ≡ suc (min n r.high - r.low) = omega arith in
        let z : n ≡ r.low + (min n r.high - r.low) = omega arith in
        rw (le-leb r.low n p, lt-ltb n r.high q, e) (ap₂ ◌+◌ ih (ap f z))
    go (yes p) (no q) ih =
        let e : min (suc n) r.high - r.low ≡ min n r.high - r.low = omega arith in
        rw (le-ltb n r.high (omega arith), and-false, e) (omega (arith, ih))
    go (no p) (yes q) ih =
        let e : min (suc n) r.high - r.low ≡ min n r.high - r.low = omega arith in
        rw (lt-leb r.low n (omega arith), e) (omega (arith, ih))
    go (no p) (no q) ih =
        let e : min (suc n) r.high - r.low ≡ min n r.high - r.low = omega arith in
        rw (lt-leb r.low n (omega arith), e) (omega (arith, ih))

-- a sum over the numbers of a range, all below s
pub total_range : (f : ℕ → ℕ) (r : Range) (s : ℕ) → r.high ≤ s → sum_where (within r) f s ≡ total (λ i. f (r.low + i)) (r.high - r.low)
total_range f r s h = total_range_to f r s ∙ ap (total (λ i. f (r.low + i))) (omega arith)

-- place x of row q, rows being s long
pub place_in_row : (s x q : ℕ) → x < s → (x + s * q) % s ≡ x
place_in_row s x q l = add-mul-mod_self_left x s q ∙ mod-eq_of_lt l

pub row_of_place : (s x q : ℕ) → x < s → (x + s * q) / s ≡ q
row_of_place s x q l = add-mul-div_left x q (omega arith) ∙ ap (λ (k : ℕ). k + q) (div-eq_of_lt l) ∙ zero-add q

-- the first axis's sum stands innermost
pub nest : (s : ℕ) (ss : List ℕ) (f : ℕ → ℕ) (r : Range) (rs : Block) → r.high ≤ s
    → sum_where (λ c. inside (r ∷ rs) (coords (s ∷ ss) c)) f (cells (s ∷ ss))
    ≡ sum_where (λ q. inside rs (coords ss q)) (λ q. total (λ i. f ((r.low + i) + s * q)) (r.high - r.low)) (cells ss)
unfolding cells coords inside pick
nest s ss f r rs h =
    total_rows _ s (cells ss) ∙ total_ext _ _ (cells ss) (λ q l. row q)
  where
    part : (q : ℕ) (t : Bool) → total (λ x. pick (within r x && t) (f (x + s * q)) 0) s ≡ pick t (total (λ i. f ((r.low + i) + s * q)) (r.high - r.low)) 0
    part q true = total_ext _ _ s (λ x l. ap (λ (t : Bool). pick t (f (x + s * q)) 0) (and-true (within r x))) ∙ total_range (λ x. f (x + s * q)) r s h
    part q false = total_ext _ (λ _. 0) s (λ x l. ap (λ (t : Bool). pick t (f (x + s * q)) 0) (and-false (within r x))) ∙ total-zero s

    row : (q : ℕ) → total (λ x. pick (within r ((x + s * q) % s) && inside rs (coords ss ((x + s * q) / s))) (f (x + s * q)) 0) s
        ≡ pick (inside rs (coords ss q)) (total (λ i. f ((r.low + i) + s * q)) (r.high - r.low)) 0
    row q =
        total_ext _ _ s (λ x l. ap₂ (λ (a c : ℕ). pick (within r a && inside rs (coords ss c)) (f (x + s * q)) 0) (place_in_row s x q l) (row_of_place s x q l))
        ∙ part q (inside rs (coords ss q))

-- no axis is left
pub nest_end : (f : ℕ → ℕ) → sum_where (λ c. inside [] (coords [] c)) f (cells []) ≡ f 0
unfolding total pick cells inside
nest_end f = zero-add (f 0)

-- a line is a block of side 1
unfoldable pub thin : ℕ → ℕ → Block → Block
thin a j b = after a j (before a (suc j) b)

pub line_is_thin : (sides ws : List ℕ) (b : Block) (a j : ℕ) → a < length b → line sides ws b a j ≡ weight sides ws (thin a j b)
unfolding line weight thin
line_is_thin sides ws b a j h = where_ext (λ c. get_or ws c 0) (cells sides) _ _ (λ c l. one (coords sides c))
  where
    test : (t : Bool) (x : ℕ) → (t && eqb x j) ≡ ((t && ltb x (suc j)) && not (ltb x j))
    test false x = refl
    test true x = same_test _ _ (λ q. rw (lt-ltb x (suc j) (omega (arith, eqb-true x j q)), le-ltb x j (omega (arith, eqb-true x j q))))
        (λ q. let i = both (ltb x (suc j)) (not (ltb x j)) q in eq-eqb x j (omega (arith, ltb-true x (suc j) i.0, ltb-false x j (not-true _ i.1))))

    one : (xs : List ℕ) → (inside b xs && eqb (on xs a) j) ≡ inside (after a j (before a (suc j) b)) xs
    one xs = test (inside b xs) (on xs a)
        ∙ sym (inside_after a j (before a (suc j) b) xs (rw before_length h) ∙ ap (λ (t : Bool). t && not (ltb (on xs a) j)) (inside_before a (suc j) b xs h))
