-- A slice that is written from its start on: f 0, .., f (i - 1), and then what it was. Assumes nothing.
use mathlib.Core.Path.{◌≡◌, sym, ap, ◌∙◌}
use mathlib.Core.List.{List, ◌++◌, append-nil}
use Prim.Native.Nat.{ℕ, ◌+◌, ◌≤◌, ◌<◌}
use native.Mathlib.Omega.{arith}
use lib.ListN.{length, drop, set, length-append, length-drop}
use lib.Seq.{drop-length}
use Rattle.rules.specs.Sums.{list}
use Rattle.laws.proofs.Lists.{length_list, list_more}

abbrev pub written : (ℕ → ℕ) → ℕ → List ℕ → List ℕ
written f i old = list f i ++ drop i old

pub written_length : (f : ℕ → ℕ) (i : ℕ) (old : List ℕ) → i ≤ length old → length (written f i old) ≡ length old
written_length f i old h = omega (arith, length-append (list f i) (drop i old), length_list f i, length-drop i old)

pub written_whole : (f : ℕ → ℕ) (i n : ℕ) (old : List ℕ) → n ≤ i → i ≤ n → length old ≡ n → written f i old ≡ list f n
written_whole f i n old h k e =
    let z : i ≡ n = omega arith in
    let y : n ≡ length old = sym e in
    rw z (ap (λ (j : ℕ). list f n ++ drop j old) y ∙ ap (λ (l : List ℕ). list f n ++ l) (drop-length old) ∙ append-nil (list f n))

-- one more element
pub written_more : (f : ℕ → ℕ) (l old : List ℕ) (i v : ℕ) → i < length old → l ≡ written f i old → v ≡ f i → set l i v ≡ written f (i + 1) old
written_more f l old i v h e k = rw (e, k) (list_more f old i h)
