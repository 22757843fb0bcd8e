-- Sums, largest values and lists of numbers: what the chapters share. Assumes nothing.
use Rattle.std.specs.Prelude.{ℕ, zero, suc, ◌+◌, max, Bool, true, false, ◌||◌, ◌&&◌, List, [], ◌∷◌, ◌++◌}

-- the first where the test passes, else the second
unfoldable pub pick : Bool → ℕ → ℕ → ℕ
pick true a b = a
pick false a b = b

-- whether some element passes the test
unfoldable pub any : {A : Type 0} → (A → Bool) → List A → Bool
any p [] = false
any p (x ∷ xs) = p x || any p xs

-- whether every number below n passes the test
abbrev pub all_below : ℕ → (ℕ → Bool) → Bool
all_below zero p = true
all_below (suc n) p = p n && all_below n p

-- f 0 + .. + f (n - 1)
unfoldable pub total : (ℕ → ℕ) → ℕ → ℕ
total f zero = 0
total f (suc n) = total f n + f n

-- the same over those numbers alone that pass the test
abbrev pub sum_where : (ℕ → Bool) → (ℕ → ℕ) → ℕ → ℕ
sum_where p f n = total (λ c. pick (p c) (f c) 0) n

-- the largest of f 0, .., f (n - 1); 0 if n is 0
unfoldable pub top : (ℕ → ℕ) → ℕ → ℕ
top f zero = 0
top f (suc n) = max (top f n) (f n)

-- f 0, .., f (n - 1)
unfoldable pub list : (ℕ → ℕ) → ℕ → List ℕ
list f zero = []
list f (suc n) = list f n ++ (f n ∷ [])
