-- The lightest parts, in a tree over the first so many ids, a power of two. Node 1 is the root, nodes 2n and 2n + 1 stand below node n, and
-- the leaf of id i is node `leaves` + i. Assumes nothing.
use Rattle.std.specs.Prelude.{ℕ, ◌+◌, ◌-◌, ◌*◌, ◌^◌, ◌≤◌, ◌<◌, ◌≡◌, List, ltb, get_or, length}
use Rattle.rules.specs.Sums.{pick}

-- the weight of part i
abbrev pub part_at : List ℕ → ℕ → ℕ
part_at parts i = get_or parts i 0

-- the lighter of parts a and b; of equals a
unfoldable pub lighter_of : List ℕ → ℕ → ℕ → ℕ
lighter_of parts a b = pick (ltb (part_at parts b) (part_at parts a)) b a

-- of the ids whose leaves are nodes from `from` on and below `to`, r is the first of the lightest
pub record Lightest (parts : List ℕ) (leaves from to r : ℕ) : Type 0 where
  pub low : from ≤ leaves + r
  pub high : leaves + r < to
  pub least : (i : ℕ) → from ≤ leaves + i → leaves + i < to → part_at parts r ≤ part_at parts i
  pub first : (i : ℕ) → from ≤ leaves + i → i < r → part_at parts r < part_at parts i

-- the id at a node: a leaf's own, and else what the tree holds
unfoldable pub id_at : ℕ → List ℕ → ℕ → ℕ
id_at leaves tree n = pick (ltb n leaves) (get_or tree n 0) (n - leaves)

-- the id at the root
abbrev pub root : List ℕ → ℕ
root tree = get_or tree 1 0

-- the tree has 4,096 places, and those that are no node above the leaves, 0 and from `leaves` on, hold 0
pub record Framed (leaves : ℕ) (tree : List ℕ) : Type 0 where
  pub long : length tree ≡ 4096
  pub unused : (n : ℕ) → (0 < n → leaves ≤ n) → get_or tree n 0 ≡ 0

-- node n stands h levels above the leaves: below it are the leaves from n * 2 ^ h on and below (n + 1) * 2 ^ h
pub record Stands (leaves h n : ℕ) : Type 0 where
  pub low : leaves ≤ n * 2 ^ h
  pub high : (n + 1) * 2 ^ h ≤ 2 * leaves

-- at that node is the id of the first of the lightest parts below it
abbrev pub Holds : ℕ → List ℕ → List ℕ → ℕ → ℕ → Type 0
Holds leaves parts tree h n = Lightest parts leaves (n * 2 ^ h) ((n + 1) * 2 ^ h) (id_at leaves tree n)

-- and so at every node: the tree knows the parts
pub record Knows (leaves : ℕ) (parts tree : List ℕ) : Type 0 where
  pub frame : Framed leaves tree
  pub nodes : (h n : ℕ) → Stands leaves h n → Holds leaves parts tree h n

-- part id was raised, and no other
pub record Raised (leaves id : ℕ) (before parts : List ℕ) : Type 0 where
  pub others : (i : ℕ) → i < leaves → (i ≡ id → ⊥) → part_at parts i ≡ part_at before i
  pub higher : part_at before id ≤ part_at parts id

-- the tree knew the parts as they were before part id was raised
pub record Knew (leaves id : ℕ) (parts tree : List ℕ) : Type 0 where
  pub before : List ℕ
  pub knows : Knows leaves before tree
  pub raised : Raised leaves id before parts

-- what a node is worked out to, from the two below it
abbrev pub worked_out : ℕ → List ℕ → List ℕ → ℕ → ℕ
worked_out leaves parts tree n = lighter_of parts (id_at leaves tree (2 * n)) (id_at leaves tree (2 * n + 1))

-- and can be
pub record Ready (leaves : ℕ) (tree : List ℕ) (n : ℕ) : Type 0 where
  pub inside : n < leaves
  pub few : leaves ≤ 4096
  pub long : length tree ≡ 4096
  pub left : id_at leaves tree (2 * n) < 4096
  pub right : id_at leaves tree (2 * n + 1) < 4096
