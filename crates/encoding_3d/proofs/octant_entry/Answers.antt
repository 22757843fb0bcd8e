-- `octant_entry` meets its contract: the lent table is 01's.
use mathlib.Core.List.{List}
use mathlib.Core.Path.{ap}
use Prim.Native.Nat.{ℕ}
use lib.Bits.{bit_or}
use lib.ListN.{get_or}
use Rattle.encoding_3d.proofs.OctantTurn.{place_lt}
use Rattle.encoding_3d.proofs.octant_entry.Goals as goal

pub bounds-lut-config : goal.bounds-lut-config
bounds-lut-config c = place_lt c.args.config c.args.octant c.requires.1 c.requires.2 c.requires.3

pub returns : goal.returns
returns c = let a = c.args in
    ap (λ (t : List ℕ). get_or t (bit_or a.config a.octant) 0) c.requires.0
