-- What a halving or a replay of the C interface, or a call on axes from low to high, stands for: the one that its arguments describe. Assumes nothing.
use Rattle.std.specs.Prelude.{ℕ, List, Float}
use Rattle.rules.specs.Knots.{Filed}
use Rattle.rules.specs.Halving.{halving2, halving3, of2, of3, Halved, halve}
use Rattle.rules.specs.declared.Extent.{Extent}
use Rattle.knots_given.specs.Given.{index_in2, index_in3}
use Rattle.requests.specs.Replay.{Replayed, replay}

-- low and high of each axis, then the coordinates, the order, and what the index slice holds
abbrev pub between : Float → Float → Extent
between low high = record { low = low; high = high }

abbrev pub in2 : Float → Float → Float → Float → List Float → List Float → ℕ → List ℕ → Filed
in2 xlow xhigh ylow yhigh xs ys = index_in2 xs ys (between xlow xhigh) (between ylow yhigh)

abbrev pub in3 : Float → Float → Float → Float → Float → Float → List Float → List Float → List Float → ℕ → List ℕ → Filed
in3 xlow xhigh ylow yhigh zlow zhigh xs ys zs = index_in3 xs ys zs (between xlow xhigh) (between ylow yhigh) (between zlow zhigh)

-- width, height, depth, then what weights, splits and ids hold
abbrev pub rcb2 : ℕ → ℕ → ℕ → List ℕ → List ℕ → List ℕ → Halved
rcb2 width height depth = halve (halving2 (of2 width height depth))

abbrev pub rcb3 : ℕ → ℕ → ℕ → ℕ → List ℕ → List ℕ → List ℕ → Halved
rcb3 width height layers depth = halve (halving3 (of3 width height layers depth))

-- the same behind the number of an edition, with the first axis before the depth
abbrev pub halve2 : ℕ → ℕ → ℕ → ℕ → ℕ → List ℕ → List ℕ → List ℕ → Halved
halve2 edition width height first depth = halve (halving2 (record { edition = edition; width = width; height = height; first = first; depth = depth }))

abbrev pub halve3 : ℕ → ℕ → ℕ → ℕ → ℕ → ℕ → List ℕ → List ℕ → List ℕ → Halved
halve3 edition width height layers first depth = halve (halving3 (record { edition = edition; width = width; height = height; layers = layers; first = first; depth = depth }))

-- a replay halves by edition 2: width, height, first axis, depth, then weights, cells and amounts, and what answers, splits and ids hold
abbrev pub replay2 : ℕ → ℕ → ℕ → ℕ → List ℕ → List ℕ → List ℕ → List ℕ → List ℕ → List ℕ → Replayed
replay2 width height first depth = replay (halving2 (record { edition = 2; width = width; height = height; first = first; depth = depth }))

abbrev pub replay3 : ℕ → ℕ → ℕ → ℕ → ℕ → List ℕ → List ℕ → List ℕ → List ℕ → List ℕ → List ℕ → Replayed
replay3 width height layers first depth = replay (halving3 (record { edition = 2; width = width; height = height; layers = layers; first = first; depth = depth }))
