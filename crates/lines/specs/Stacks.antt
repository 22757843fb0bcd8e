-- Sums of weights over runs, sheets and solids of cells, and what their loops ask: 2D has one layer.
use Rattle.std.specs.Prelude.{ℕ, ◌+◌, ◌*◌, ◌≤◌, ◌<◌, List, get_or, length}
use Rattle.rules.specs.Sums.{total}
use Rattle.rules.specs.Refusals.{top_side, top_cells, top_weight}
use Rattle.lines.specs.declared.Stack.{Stack}

-- n cells from start on
unfoldable pub run_sum : List ℕ → ℕ → ℕ → ℕ
run_sum ws start n = total (λ i. get_or ws (start + i) 0) n

-- n runs of a stack
unfoldable pub sheet_sum : List ℕ → ℕ → Stack → ℕ → ℕ
sheet_sum ws start s n = total (λ j. run_sum ws (start + s.row * j) s.width) n

-- n sheets of a stack
unfoldable pub solid_sum : List ℕ → ℕ → Stack → ℕ → ℕ
solid_sum ws start s n = total (λ k. sheet_sum ws (start + s.layer * k) s s.height) n

-- line i: all lines are stacks of the same sides, jump apart
abbrev pub line_of : List ℕ → ℕ → ℕ → Stack → ℕ → ℕ
line_of ws start jump s i = solid_sum ws (start + jump * i) s s.layers

-- few and small weights
pub record Light (ws : List ℕ) : Type 0 where
  pub few : length ws ≤ top_cells
  pub small : (c : ℕ) → c < length ws → get_or ws c 0 ≤ top_weight

pub record RunFits (ws : List ℕ) (start n : ℕ) : Type 0 where
  pub short : n ≤ top_side
  pub reach : start + n ≤ length ws

pub record SheetFits (ws : List ℕ) (start : ℕ) (s : Stack) : Type 0 where
  pub short : s.height ≤ top_side
  pub reach : start + s.row * s.height < 4294967296
  pub each : (j : ℕ) → j < s.height → RunFits ws (start + s.row * j) s.width

pub record SolidFits (ws : List ℕ) (start : ℕ) (s : Stack) : Type 0 where
  pub short : s.layers ≤ top_side
  pub reach : start + s.layer * s.layers < 4294967296
  pub each : (k : ℕ) → k < s.layers → SheetFits ws (start + s.layer * k) s

pub record LinesFit (ws : List ℕ) (start jump m : ℕ) (s : Stack) : Type 0 where
  pub short : m ≤ top_side
  pub reach : start + jump * m < 4294967296
  pub each : (i : ℕ) → i < m → SolidFits ws (start + jump * i) s
