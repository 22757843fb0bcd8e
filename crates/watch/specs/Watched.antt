-- The heaviest and the lightest of n parts, as they are watched.
use Rattle.std.specs.Prelude.{ℕ, ◌≤◌, ◌<◌, ◌≡◌, List}
use Rattle.requests.specs.Order.{at}
use Rattle.lightest.specs.Tree.{Knows, Knew}

-- most is the id of a heaviest part
pub record Heaviest (n : ℕ) (parts : List ℕ) (most : ℕ) : Type 0 where
  pub inside : most < n
  pub top : (i : ℕ) → i < n → at parts i ≤ at parts most

-- and the tree knows the lightest
pub record Watched (n : ℕ) (parts : List ℕ) (most : ℕ) (tree : List ℕ) : Type 0 where
  pub heaviest : Heaviest n parts most
  pub lightest : Knows n parts tree

-- they were watched before a part was raised: no other is heavier
pub record Was (n part : ℕ) (parts : List ℕ) (most : ℕ) (tree : List ℕ) : Type 0 where
  pub inside : most < n
  pub top : (i : ℕ) → i < n → (part ≡ i → ⊥) → at parts i ≤ at parts most
  pub lightest : Knew n part parts tree
