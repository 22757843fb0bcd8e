-- The highest part of a number stands for the number over the bases below it, once it is large and marked. Assumes nothing.
use Rattle.std.proofs.Common.{◌≡◌, ℕ, ◌+◌, ◌*◌, ◌^◌, ◌<◌, ◌≤◌, sym, subst, ◌∙◌, le_trans, lit≤}
use lib.Arith.{digits_lt}
use lib.Ieee.{binary64}
use Rattle.ratio_laws.proofs.LeadingDigits.{MarkedBy, leading_digits}
use Rattle.fives.specs.declared.parts.Parts.{Parts}
use Rattle.fives.specs.declared.Marked.{Marked}
use Rattle.fives.specs.Fives.{Alike, Stands, number_of}
use Rattle.fives.proofs.InParts.{left, reached}

pub leading_stands : (a b : ℕ) (p : Parts) (m : Marked) → p.second * p.first ≡ b → number_of p ≡ a * 2 ^ m.shift → 2 ^ 54 ≤ p.high
    → m.whole < 2 ^ 64 → m.shift < 200 → MarkedBy p.high (p.middle * p.first + p.low) m.whole → Stands a b m
unfolding Alike
leading_stands a b p m bases e big w short marked =
    let is : a * 2 ^ m.shift ≡ p.high * (p.second * p.first) + (p.middle * p.first + p.low) = sym e ∙ left p.high p.second p.first p.middle p.low in
    subst (λ (z : ℕ). Stands a z m) bases (record {
      alike = leading_digits binary64 (a * 2 ^ m.shift) (p.second * p.first) p.high (p.middle * p.first + p.low) m.whole is (digits_lt p.parted.middle p.parted.low) big marked;
      reaches = reached p.high (p.second * p.first) (p.middle * p.first + p.low) (a * 2 ^ m.shift) (le_trans (lit≤ tt) big) is;
      large = w;
      short = short;
    })
