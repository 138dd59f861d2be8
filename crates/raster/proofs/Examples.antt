-- P1, P2 and P3 hold.
-- Assumes nothing.
use mathlib.Core.Path.{refl}
use Rattle.raster.specs.Raster.{new_bit, new_byte}
use Rattle.raster.specs.Examples.{P1, P2, P3}

pub p1 : P1
unfolding new_byte new_bit
p1 = refl

pub p2 : P2
unfolding new_byte new_bit
p2 = refl

pub p3 : P3
unfolding new_byte new_bit
p3 = refl
