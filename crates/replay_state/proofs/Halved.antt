-- An accepted grid is not refused, so that what a halving leaves of it is the rule's. Assumes nothing.
use Prim.Native.Nat.{ℕ}
use mathlib.Core.Path.{◌≡◌, ap, ◌∙◌}
use mathlib.Core.List.{List}
use Rattle.rules.specs.Halving.{Halving, Halved, halve, splits_by, ids_by}
use Rattle.halving_laws.specs.Accepted.{Accepted}
use Rattle.halving_laws.proofs.Accepted.{not_refused}
use Rattle.halving_laws.proofs.Answers.{answered}

module _ {h : Halving} {ws splits ids : List ℕ} (r : Accepted h ws splits ids) where
  pub splits_left : {splits' : List ℕ} → splits' ≡ (halve h ws splits ids).splits → splits' ≡ splits_by h ws
  splits_left e = e ∙ ap (λ (o : Halved). o.splits) (answered h ws splits ids (not_refused h ws splits ids r))

  pub ids_left : {ids' : List ℕ} → ids' ≡ (halve h ws splits ids).ids → ids' ≡ ids_by h ws
  ids_left e = e ∙ ap (λ (o : Halved). o.ids) (answered h ws splits ids (not_refused h ws splits ids r))
