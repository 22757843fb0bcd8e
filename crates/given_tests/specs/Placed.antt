-- Points on a given axis, as the call has them. Assumes nothing.
use Rattle.points.specs.declared.Placed.{Placed}
use Rattle.knots_given.specs.Given.{Given, on}

abbrev pub given : Placed → Given
given p = on p.points.now p.axis
