-- Sums but for the heaviest line, and what a cell more makes of them.
use Prim.Native.Nat.{ℕ, ◌<◌, max}
use mathlib.Core.Path.{◌≡◌, refl, ◌∙◌}
use mathlib.Core.List.{List}
use lib.ListN.{get_or}
use Rattle.rules.specs.Grid.{cells, heaviest_line}
use Rattle.tally_laws.specs.Weighed.{Sided, Weighed, heavier}
use Rattle.tally_laws.specs.Added.{Added}
use Rattle.tally_laws.specs.Tallied.{Tallied}
use Rattle.tally_laws.proofs.Kept.{still_tallied}
use Rattle.tally_laws.proofs.Start.{zeros, zeros_tallied}
use Rattle.tallies.specs.declared.Tally.{Tally}
use Rattle.tallies.specs.Sums.{nothing, Put, heaviest_of}
use Rattle.tallies.proofs.Heaviest.{heaviest_is}

-- a tally has the sums of weights and ids but for its heaviest line
abbrev pub AllBut : List ℕ → List ℕ → List ℕ → Tally → Type 0
AllBut sides ws ids t = Tallied sides ws ids t.all (heaviest_line sides ws) t.lines t.parts

-- the sums of nothing
pub nothing_tallied : (sides ids : List ℕ) → Sided sides → AllBut sides (zeros (cells sides)) ids nothing
unfolding nothing
nothing_tallied sides ids g =
    let z = zeros_tallied sides ids g in
    record { all = z.all; heaviest = refl; lines = z.lines; parts = z.parts; lines_long = z.lines_long; parts_long = z.parts_long }

-- where an amount was put, the heaviest line is the heavier of what it was and of the cell's lines
pub added : {sides : List ℕ} {cell part amount most : ℕ} {t u : Tally} (M : ℕ) → Put sides cell part amount t u most
    → Added sides cell part amount t.all M t.lines t.parts u.all (max M most) u.lines u.parts
added M p = record { all = p.all; heaviest = rw p.lines_most refl; lines = p.lines; parts = p.parts }

-- a cell more
pub one_more : {sides ws ids : List ℕ} {t u : Tally} {part most : ℕ} → Weighed sides ws → AllBut sides ws ids t → (c v : ℕ) → c < cells sides → get_or ids c 0 ≡ part → part < 4096
    → Put sides c part v t u most → AllBut sides (heavier ws c v) ids u
one_more {sides} {ws} g m c v h e n p =
    let k = still_tallied g m c v h e n (added (heaviest_line sides ws) p) in
    record { all = k.all; heaviest = refl; lines = k.lines; parts = k.parts; lines_long = k.lines_long; parts_long = k.parts_long }

-- the heaviest line is found among the lines' sums
pub found : {sides ws ids : List ℕ} {M : ℕ} (t : Tally) → AllBut sides ws ids t → M ≡ heaviest_of sides t.lines → Tallied sides ws ids t.all M t.lines t.parts
found t m e =
    record { all = m.all; heaviest = e ∙ heaviest_is m; lines = m.lines; parts = m.parts; lines_long = m.lines_long; parts_long = m.parts_long }
