-- What a machine has met that takes a text a byte a step, until it breaks. Assumes nothing.
use Rattle.std.specs.Prelude.{ℕ, ◌+◌, List, [], ◌∷◌}
use Rattle.std.specs.declared.ops.ControlFlow.{ControlFlow}
use Rattle.std.specs.declared.ops.ControlFlow.TheVariants.{Continue, Break}

-- with all bytes more of a list, the first of which stands at a place; a step takes what has been met, a byte and its place
abbrev pub after : {A B : Type 0} → (A → ℕ → ℕ → ControlFlow B A) → ControlFlow B A → List ℕ → ℕ → ControlFlow B A
after step (Break b) t at = Break b
after step (Continue met) [] at = Continue met
after step (Continue met) (b ∷ t) at = after step (step met b at) t (at + 1)
