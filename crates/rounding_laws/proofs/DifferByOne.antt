-- What the statement by products says: of a cell that is at most one off and of no other, the whole part of the quotient differs by at most 1; and
-- where the quotient is clear of borders in cell q, that whole part is q. Assumes nothing.
use Prim.Native.Nat.{ℕ, ◌+◌, ◌*◌, ◌/◌, ◌^◌, ◌≤◌, ◌<◌}
use mathlib.Core.Path.{◌≡◌}
use native.Mathlib.Nat.{mul_comm, add-mul, mul-le-mul_right, div-lt_iff_lt-mul, div-eq_of_lt-le, div-mul-le_self, lt-mul-div-succ, lt_of_mul-lt-mul_right}
use native.Mathlib.Omega.{arith}
use Rattle.requests.specs.Rounding.{AtMostOneOff, Clear}

-- the whole part of the exact quotient
abbrev pub whole_part : ℕ → ℕ → ℕ → ℕ
whole_part across whole order = across * 2 ^ order / whole

module _ (across whole order : ℕ) (not_flat : 0 < whole) where
  abbrev q : ℕ
  q = whole_part across whole order

  abbrev x : ℕ
  x = across * 2 ^ order

  next : x < (q + 1) * whole
  next = omega (arith, lt-mul-div-succ x not_flat, mul_comm whole (q + 1))

  pub differ_by_one : (c : ℕ) → AtMostOneOff across whole order c → (c ≤ whole_part across whole order + 1) × (whole_part across whole order ≤ c + 1)
  differ_by_one c off =
      let a : c * whole < (q + 2) * whole = omega (arith, off.one_less_at_most, next, add-mul q 1 whole, add-mul q 2 whole) in
      let b : c < q + 2 = lt_of_mul-lt-mul_right whole a in
      (omega arith, omega (arith, (div-lt_iff_lt-mul not_flat).1 off.two_more_above))

  pub one_off_is_that : (c : ℕ) → c ≤ whole_part across whole order + 1 → whole_part across whole order ≤ c + 1 → AtMostOneOff across whole order c
  one_off_is_that c h k =
      let a : c * whole ≤ (q + 1) * whole = mul-le-mul_right whole h in
      let b : (q + 1) * whole ≤ (c + 2) * whole = mul-le-mul_right whole (omega arith) in
      record {
        one_less_at_most = omega (arith, add-mul q 1 whole, div-mul-le_self x whole);
        two_more_above = omega (arith, next);
      }

  pub clear_is_whole : (c : ℕ) → Clear across whole order c → whole_part across whole order ≡ c
  clear_is_whole c clear = div-eq_of_lt-le whole (under (c * whole) x _ clear.from_below) (over ((c + 1) * whole) x _ clear.from_above)
    where
      under : (x y u : ℕ) → 562949953421312 * x + u ≤ 562949953421312 * y → x ≤ y
      under x y u h = omega arith

      over : (x y u : ℕ) → 562949953421312 * y + u < 562949953421312 * x → y < x
      over x y u h = omega arith
