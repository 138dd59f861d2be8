-- P4, P5 and P6 hold.
-- Assumes nothing.
use mathlib.Core.Path.{refl}
use Rattle.geometry.specs.Coordinates.{point_of}
use Rattle.geometry.specs.Line.{nearest_of}
use Rattle.geometry.specs.Examples.{P4, P5, P6}

pub p4 : P4
unfolding point_of nearest_of
p4 = refl

pub p5 : P5
unfolding point_of nearest_of
p5 = refl

pub p6 : P6
unfolding point_of nearest_of
p6 = (refl, refl)
