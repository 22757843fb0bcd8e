-- The bits of a power of two are its exponent.
use Rattle.fives.proofs.PowersOfTwo.{power_value, power_no_nan}
use Rattle.fives.proofs.power_of_two.Goals as goal

pub float_from_bits-result : goal.float_from_bits-result
float_from_bits-result c = power_no_nan c.args.up c.args.down c.requires.0 c.requires.1

pub returns : goal.returns
returns c = record { value = power_value c.args.up c.args.down c.requires.0 c.requires.1 }
