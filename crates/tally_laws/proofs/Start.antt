-- Sums from nothing: the cells are taken one after the other, and those that are still to come weigh nothing.
use Prim.Native.Nat.{ℕ, ◌+◌, ◌*◌, ◌≤◌, ◌<◌}
use native.Mathlib.Omega.{arith}
use native.Mathlib.Nat.{zero-add}
use mathlib.Core.Bool.{Bool, true, false, ◌&&◌}
use mathlib.Core.Path.{◌≡◌, refl, sym, ◌∙◌}
use mathlib.Core.List.{List, [], ◌++◌, append-nil}
use lib.Dec.{eqb}
use lib.ListN.{get_or, length, drop, replicate, length-replicate, get_or-replicate}
use lib.Seq.{drop-length, ext_get_or, drop-cons, get_or_at}
use Rattle.rules.specs.Sums.{pick, sum_where, top, list}
use Rattle.rules.specs.Grid.{cells, coords, on, whole, edge, side, inside, all_weight, line, heaviest, heaviest_line}
use Rattle.rules.specs.Demands.{part_weight}
use Rattle.laws.proofs.Lists.{length_list, get_or_list, list_more}
use Rattle.laws.proofs.Totals.{total_ext, total-zero, le-top}
use Rattle.tally_laws.specs.Weighed.{Sided, Weighed, heavier}
use Rattle.tally_laws.specs.Tallied.{Tallied}

abbrev pub zeros : ℕ → List ℕ
zeros n = replicate n 0

zeros_long : (n : ℕ) → length (zeros n) ≡ n
zeros_long n = length-replicate n 0

zeros_at : (n i : ℕ) → i < n → get_or (zeros n) i 0 ≡ 0
zeros_at n i l = get_or-replicate n i 0 0 l

-- the weights of the first c cells, and none for the others
unfoldable pub first_of : List ℕ → ℕ → List ℕ
first_of ws c = list (λ i. get_or ws i 0) c ++ drop c (zeros (length ws))

nothing : (n : ℕ) → drop n (zeros n) ≡ []
nothing n = rw (zeros_long n) at (drop-length (zeros n))

module _ (ws : List ℕ) where
  pub first-none : first_of ws 0 ≡ zeros (length ws)
  unfolding first_of list
  first-none = refl

  pub first_all : first_of ws (length ws) ≡ ws
  unfolding first_of
  first_all =
      rw (nothing (length ws), append-nil)
      (ext_get_or 0 _ ws (length_list _ (length ws)) (λ i l. get_or_list (λ j. get_or ws j 0) (length ws) i 0 (rw (length_list (λ j. get_or ws j 0) (length ws)) at l)))

  -- the next cell weighs nothing yet
  pub first_zero : (c : ℕ) → c < length ws → get_or (first_of ws c) c 0 ≡ 0
  unfolding first_of
  first_zero c h =
      rw (drop-cons (zeros (length ws)) c 0 (rw zeros_long h))
      (get_or_at (list (λ i. get_or ws i 0) c) _ _ 0 c (length_list _ c) ∙ zeros_at (length ws) c h)

  -- and gets its weight
  pub first_next : (c : ℕ) → c < length ws → heavier (first_of ws c) c (get_or ws c 0) ≡ first_of ws (c + 1)
  unfolding first_of
  first_next c h = rw (first_zero c h, zero-add) (list_more (λ i. get_or ws i 0) (zeros (length ws)) c (rw zeros_long h))

-- sums of nothing
module _ (n : ℕ) where
  none_where : (p : ℕ → Bool) → sum_where p (λ c. get_or (zeros n) c 0) n ≡ 0
  unfolding pick
  none_where p = total_ext _ (λ _. 0) n (λ c l. rw (zeros_at n c l) (nought (p c))) ∙ total-zero n
    where
      nought : (t : Bool) → pick t 0 0 ≡ 0
      nought true = refl
      nought false = refl

module _ (sides : List ℕ) where
  none_line : (a j : ℕ) → line sides (zeros (cells sides)) (whole sides) a j ≡ 0
  unfolding line
  none_line a j = none_where (cells sides) (λ c. inside (whole sides) (coords sides c) && eqb (on (coords sides c) a) j)

  none_heaviest : heaviest_line sides (zeros (cells sides)) ≡ 0
  unfolding heaviest_line heaviest
  none_heaviest =
      let h : top (λ a. top (λ i. line sides (zeros (cells sides)) (whole sides) a (edge a (whole sides) + i)) (side a (whole sides))) (length sides) ≤ 0 =
      le-top _ (length sides) 0 (λ a _. le-top _ (side a (whole sides)) 0 (λ i _. omega (arith, none_line a (edge a (whole sides) + i)))) in
      omega (arith, h)

  -- zeros are the sums of no weights
  pub zeros_tallied : (ids : List ℕ) → Sided sides → Tallied sides (zeros (cells sides)) ids 0 0 (zeros 3072) (zeros 4096)
  unfolding all_weight part_weight pick
  zeros_tallied ids g =
      record {
        all = sym (none_where (cells sides) (λ _. true));
        heaviest = sym none_heaviest;
        lines = λ a j l q. zeros_at 3072 (a * 1024 + j) (omega (arith, g.axes, g.sides_fit a l)) ∙ sym (none_line a j);
        parts = λ i l. zeros_at 4096 i l ∙ sym (none_where (cells sides) (λ c. eqb (get_or ids c 0) i));
        lines_long = zeros_long 3072;
        parts_long = zeros_long 4096;
      }

  pub zeros_weighed : Sided sides → Weighed sides (zeros (cells sides))
  zeros_weighed g = record { sided = g; long = zeros_long (cells sides); light = λ c l. omega (arith, zeros_at (cells sides) c (rw (zeros_long (cells sides)) at l)) }
