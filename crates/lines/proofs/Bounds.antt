-- How much nested sums can weigh, and one term more of each.
use Prim.Native.Nat.{ℕ, zero, suc, ◌+◌, ◌-◌, ◌*◌, ◌≤◌, ◌<◌}
use native.Mathlib.Omega.{arith}
use native.Mathlib.Numerals.{add-one}
use mathlib.Core.Path.{◌≡◌, refl, ap, ◌∙◌}
use mathlib.Core.List.{List}
use lib.ListN.{get_or, length, take, drop, length-drop}
use Rattle.std.specs.List.{sum}
use Rattle.std.proofs.lemmas.List.{get_or-drop}
use Rattle.std.proofs.lemmas.List.Sums.{sum_by_more}
use Rattle.rules.specs.Sums.{total}
use Rattle.rules.specs.Refusals.{top_weight}
use Rattle.laws.proofs.Totals.{total_more, total_le, total_ext}
use Rattle.lines.specs.Stacks.{run_sum, sheet_sum, solid_sum, Light, RunFits, SheetFits}
use Rattle.lines.specs.declared.Stack.{Stack}

module _ (ws : List ℕ) (light : Light ws) where
  pub run_light : (start n : ℕ) → start + n ≤ length ws → run_sum ws start n ≤ top_weight * n
  unfolding run_sum
  run_light start n h = total_le (λ i. get_or ws (start + i) 0) top_weight n (λ i l. light.small (start + i) (omega arith))

  pub sheet_light : (start : ℕ) (s : Stack) (n : ℕ) → ((j : ℕ) → j < n → RunFits ws (start + s.row * j) s.width) → sheet_sum ws start s n ≤ 17179868160 * n
  unfolding sheet_sum
  sheet_light start s n f =
      total_le (λ j. run_sum ws (start + s.row * j) s.width) 17179868160 n
      (λ j l. omega (arith, run_light (start + s.row * j) s.width (f j l).reach, (f j l).short))

  pub solid_light : (start : ℕ) (s : Stack) (n : ℕ) → ((k : ℕ) → k < n → SheetFits ws (start + s.layer * k) s) → solid_sum ws start s n ≤ 17592184995840 * n
  unfolding solid_sum
  solid_light start s n f =
      total_le (λ k. sheet_sum ws (start + s.layer * k) s s.height) 17592184995840 n
      (λ k l. omega (arith, sheet_light (start + s.layer * k) s s.height (f k l).each, (f k l).short))

-- what the code sums of a row of cells
sum_is : (xs : List ℕ) (n : ℕ) → n ≤ length xs → sum (take n xs) ≡ total (λ i. get_or xs i 0) n
unfolding total
sum_is xs zero h = refl
sum_is xs (suc n) h = rw add-one at (sum_by_more (λ x. x) xs n 0 h) ∙ ap (λ (k : ℕ). k + get_or xs n 0) (sum_is xs n (omega arith))

pub run_is : (ws : List ℕ) (start n at : ℕ) → at ≡ start → start + n ≤ length ws → sum (take ((at + n) - at) (drop at ws)) ≡ run_sum ws start n
unfolding run_sum
run_is ws start n at p h =
    let e : (start + n) - start ≡ n = omega arith in
    rw (p, e) (sum_is (drop start ws) n (omega (arith, length-drop start ws)) ∙ total_ext _ _ n (λ i l. get_or-drop start ws i 0))

pub sheet_more : (ws : List ℕ) (start : ℕ) (s : Stack) (j : ℕ) → sheet_sum ws start s (j + 1) ≡ sheet_sum ws start s j + run_sum ws (start + s.row * j) s.width
unfolding sheet_sum
sheet_more ws start s j = total_more (λ j. run_sum ws (start + s.row * j) s.width) j

pub solid_more : (ws : List ℕ) (start : ℕ) (s : Stack) (k : ℕ) → solid_sum ws start s (k + 1) ≡ solid_sum ws start s k + sheet_sum ws (start + s.layer * k) s s.height
unfolding solid_sum
solid_more ws start s k = total_more (λ k. sheet_sum ws (start + s.layer * k) s s.height) k
