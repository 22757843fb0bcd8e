-- What a contract fixes of an outcome where it leaves something open: `OnlyLeaving` of `laws` for part of the answer. Assumes nothing.
use mathlib.Core.Path.{◌≡◌}
use mathlib.Core.List.{List}
use Prim.Native.Nat.{ℕ}
use contract.Lifetimes.{Lfts}
use denote.Triple.Clauses.{AtExit}
use borrow.Fn.Kinds.{ParamKind, ResultKind, Out, Dens, res_t, ended_of}

-- of a contract's ensures: at the same arguments, two outcomes that meet it agree in what is seen of the arguments, the answer and what is left
abbrev pub Leaving : {n : ℕ} {A : Type 0} (ps : List (ParamKind n)) (r : ResultKind n) → Out n ps r → ((κs : Lfts n) → Dens κs ps → (res_t r κs).Denot → AtExit (ended_of n ps r) κs → A) → Type 0
Leaving {n} ps r ensures seen =
    (κs : Lfts n) (a : Dens κs ps) (y z : (res_t r κs).Denot) (e f : AtExit (ended_of n ps r) κs) → ensures κs a y e → ensures κs a z f → seen κs a y e ≡ seen κs a z f
