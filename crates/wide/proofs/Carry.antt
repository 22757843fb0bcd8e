-- Sums by columns: what is carried, and what is left of three columns.
use Prim.Native.Nat.{ℕ, suc, ◌+◌, ◌*◌, ◌/◌, ◌%◌, ◌≤◌, ◌<◌}
use native.Mathlib.Omega.{arith}
use native.Mathlib.Nat.{div-add-mod, lt_of_not-le, lt_of_mul-lt-mul_left, mod-lt, mul-le-mul_left}
use mathlib.Core.Path.{◌≡◌, ap, sym, ◌∙◌}
use lib.Dec.{lit<}
use Rattle.wide.specs.Value.{value, Limbs, room, limb}

-- three columns in base b, each carried into the next, are worth what they were
carried : (b p q r : ℕ) → p % b + b * ((q + p / b) % b + b * (r + (q + p / b) / b)) ≡ p + b * (q + b * r)
carried b p q r = omega (arith, div-add-mod p b, ap (λ (n : ℕ). b * n) (div-add-mod (q + p / b) b))

-- the last column has no carry where the whole has room
last_fits : (b x y z : ℕ) → x + b * (y + b * z) < b * (b * b) → z < b
last_fits b x y z h = lt_of_mul-lt-mul_left b (lt_of_mul-lt-mul_left b (at_most h))
  where
    at_most : x + b * (y + b * z) < b * (b * b) → b * (b * z) < b * (b * b)
    at_most h = omega arith

-- three columns of value n, carried, are three limbs of value n
module _ (p q r n : ℕ) (e : p + limb * (q + limb * r) ≡ n) where
  pub columns : value (r + (q + p / limb) / limb) ((q + p / limb) % limb) (p % limb) ≡ n
  unfolding value
  columns = carried limb p q r ∙ e

  pub columns_fit : n < room → Limbs (r + (q + p / limb) / limb) ((q + p / limb) % limb) (p % limb)
  unfolding value room
  columns_fit h = record {
    hi_small = last_fits limb (p % limb) ((q + p / limb) % limb) (r + (q + p / limb) / limb) (rw columns h);
    mid_small = mod-lt (q + p / limb) (lit< tt);
    lo_small = mod-lt p (lit< tt);
  }

-- which of two numbers is larger goes by the first digit from the top that differs
over : (b x i y j : ℕ) → x < b → i < j → x + b * i < y + b * j
over b x i y j h l = omega (arith, mul-le-mul_left b (next i j l))
  where
    next : (i j : ℕ) → i < j → i + 1 ≤ j
    next i j l = omega arith

-- so two numbers that are equal have the same digits
pub same_digits : (b x i y j : ℕ) → x < b → y < b → x + b * i ≡ y + b * j → (x ≡ y) × (i ≡ j)
same_digits b x i y j h l e =
    let q : i ≡ j = omega (arith, not_over b x i y j h e, not_over b y j x i l (sym e)) in
    let f : x + b * j ≡ y + b * j = rw q at e in
    (omega (arith, f), q)
  where
    not_over : (b x i y j : ℕ) → x < b → x + b * i ≡ y + b * j → j ≤ i
    not_over b x i y j h e = let l : j < suc i = lt_of_not-le (λ (q : i < j). omega (arith, over b x i y j h q)) in omega (arith, l)

-- so the limbs, from the top, order two numbers
module _ {hi mid lo hi' : ℕ} (mid' lo' : ℕ) (p : Limbs hi mid lo) where
  pub by_hi : hi < hi' → value hi mid lo < value hi' mid' lo'
  unfolding value
  by_hi h = over limb lo _ lo' _ p.lo_small (over limb mid hi mid' hi' p.mid_small h)

  pub by_mid : hi ≡ hi' → mid < mid' → value hi mid lo < value hi' mid' lo'
  unfolding value
  by_mid e h = over limb lo _ lo' _ p.lo_small (rw e (omega arith))

  pub by_lo : hi ≡ hi' → mid ≡ mid' → lo ≤ lo' → value hi mid lo ≤ value hi' mid' lo'
  unfolding value
  by_lo e f h = rw (e, f) (omega arith)

  pub by_lo_less : hi ≡ hi' → mid ≡ mid' → lo < lo' → value hi mid lo < value hi' mid' lo'
  unfolding value
  by_lo_less e f h = rw (e, f) (omega arith)
