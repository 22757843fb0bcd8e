-- A digit more, of a whole number or behind a point, is met as such; what has been met of all bytes says the value. Assumes nothing.
use Rattle.std.proofs.Common.{◌≡◌, ℕ, zero, suc, ◌+◌, ◌-◌, ◌*◌, ◌^◌, ◌<◌, ◌≤◌, true, false, List, [], get_or, length, take, drop, Ok, arith, ap, refl, sym, ◌∙◌, lt_of_not-le}
use Rattle.std.proofs.lemmas.Grind.{common_steps}
use Rattle.std.proofs.lemmas.Bool.Decides.{nat_tests}
use Rattle.std.proofs.lemmas.List.{drop_more, drop_all, get_or_past}
use Rattle.std.specs.Float.{Float, binary64}
use Rattle.std.specs.Float.Ieee.{round}
use Rattle.wholes.specs.Wholes.{is_digit}
use Rattle.wholes.proofs.Digits.{digit_range}
use Rattle.decimal_steps.specs.Steps.{met_step}
use Rattle.decimal_steps.specs.declared.Met.{Met}
use Rattle.decimal_steps.specs.declared.Met.TheVariants.{Whole, Decimals}
use Rattle.decimals.specs.Decimals.{value_of, word_from, decimal_of, MetBefore, whole_met}

-- a byte that is not nought stands in the word
in_word : (w : List ℕ) (n : ℕ) → 0 < get_or w n 0 → n < length w
in_word w n some = lt_of_not-le (λ (past : length w ≤ n). let none = get_or_past w n 0 past in omega arith)

one_more : (w : List ℕ) (m next : Met) (n : ℕ) → n < length w → met_step m (get_or w n 0) n ≡ Ok next → MetBefore w m n → MetBefore w next (n + 1)
one_more w m next n h e before =
    (omega arith, sym (rw (drop_more w n 0 h) (ap (λ r. word_from r (drop (n + 1) w) (n + 1)) e)) ∙ before.1)

-- a digit more of a whole number, which is nought before the first
pub whole_digit_met : (n digits b : ℕ) → is_digit b ≡ true → digits ≤ 999999999999999999 → (n ≡ 0 → digits ≡ 0)
    → met_step (whole_met n digits) b n ≡ Ok (whole_met (n + 1) (10 * digits + (b - 48)))
whole_digit_met zero digits b digit few nought = rw (nought refl) (grind (arith, nat_tests))
whole_digit_met (suc n) digits b digit few nought = grind (arith, nat_tests)

pub whole_more : (w : List ℕ) (digits n : ℕ) → digits ≤ 999999999999999999 → is_digit (get_or w n 0) ≡ true → (n ≡ 0 → digits ≡ 0)
    → MetBefore w (whole_met n digits) n → MetBefore w (whole_met (n + 1) (10 * digits + (get_or w n 0 - 48))) (n + 1)
whole_more w digits n few digit nought =
    let range = digit_range (get_or w n 0) digit in
    one_more w (whole_met n digits) _ n (in_word w n (omega (arith, range.0))) (whole_digit_met n digits (get_or w n 0) digit few nought)

pub is_whole : (n digits : ℕ) → (n ≡ 0 → ⊥) → Whole false digits ≡ whole_met n digits
is_whole zero digits some = absurd (some refl)
is_whole (suc n) digits some = refl

-- a point behind the digits of a whole number
pub point_met : (n digits b : ℕ) → (n ≡ 0 → ⊥) → b ≡ 46 → met_step (whole_met n digits) b n ≡ Ok (Decimals false digits 0)
point_met zero digits b some point = absurd (some refl)
point_met (suc n) digits b some point = grind (arith, nat_tests)

pub point_more : (w : List ℕ) (digits n : ℕ) → (n ≡ 0 → ⊥) → get_or w n 0 ≡ 46 → MetBefore w (whole_met n digits) n → MetBefore w (Decimals false digits 0) (n + 1)
point_more w digits n some point = one_more w (whole_met n digits) _ n (in_word w n (omega arith)) (point_met n digits (get_or w n 0) some point)

pub digit_met : (digits n b at : ℕ) → is_digit b ≡ true → digits ≤ 999999999999999999 → n ≤ 43
    → met_step (Decimals false digits n) b at ≡ Ok (Decimals false (10 * digits + (b - 48)) (n + 1))
digit_met digits n b at digit few deep = grind (arith, nat_tests)

pub decimal_more : (w : List ℕ) (digits n from : ℕ) → digits ≤ 999999999999999999 → is_digit (get_or w (from + n) 0) ≡ true → n ≤ 43
    → MetBefore w (Decimals false digits n) (from + n) → MetBefore w (Decimals false (10 * digits + (get_or w (from + n) 0 - 48)) (n + 1)) (from + (n + 1))
decimal_more w digits n from few digit deep met =
    let range = digit_range (get_or w (from + n) 0) digit in
    let e : from + (n + 1) ≡ from + n + 1 = omega arith in
    rw e (one_more w (Decimals false digits n) _ (from + n) (in_word w (from + n) (omega (arith, range.0))) (digit_met digits n (get_or w (from + n) 0) (from + n) digit few deep) met)

-- a byte of the word from a place on
pub byte_from : (w : List ℕ) (from n : ℕ) → from + n < length w → get_or (take (length w - from) (drop from w)) n 0 ≡ get_or w (from + n) 0
byte_from w from n h = grind (arith, common_steps)

-- what has been met of all bytes of a word
module _ (w : List ℕ) (digits at : ℕ) (x : Float) (all : at ≡ length w) where
  said : (m : Met) → MetBefore w m at → word_from (Ok m) [] at ≡ decimal_of w
  said m met = let none : length w ≤ at = omega arith in rw (drop_all at w none) at met.1

  -- digits
  pub whole_word : MetBefore w (Whole false digits) at → x ≡ round binary64 false (digits * 10 ^ 0) 1 → Ok x ≡ decimal_of w
  whole_word met e = ap Ok e ∙ said (Whole false digits) met

  -- digits, a point and digits
  decimal_value : (n : ℕ) → n ≤ 44 → x ≡ round binary64 false digits (10 ^ n) → Ok x ≡ value_of false digits 0 n at
  decimal_value n few e = grind (arith, nat_tests)

  pub decimal_word : (n : ℕ) → MetBefore w (Decimals false digits n) at → n ≤ 44 → x ≡ round binary64 false digits (10 ^ n) → Ok x ≡ decimal_of w
  decimal_word n met few e = decimal_value n few e ∙ said (Decimals false digits n) met
