-- P1 to P12 (01, Boards to check), each as the crate of its section writes it.
use Rattle.std.specs.Prelude.{◌≡◌, pos}
use Rattle.geometry.specs.Coordinates.{point_of, whole_of}
use Rattle.raster.specs.Examples.{P1, P2, P3}
use Rattle.geometry.specs.Examples.{P4, P5, P6}
use Rattle.registers.specs.Examples.{P7}
use Rattle.entries.specs.Examples.{P8, P11, P12}
use Rattle.commands.specs.Examples.{P9, P10}

-- P12's point is (4, 2), in whole numbers.
abbrev pub P12Point : Type 0
P12Point = let p = point_of 0x0004_0002 in (whole_of p.x ≡ pos 4) × (whole_of p.y ≡ pos 2)

pub record BoardsToCheck : Type 0 where
  pub row-1 : P1
  pub row-2 : P2
  pub row-3 : P3
  pub row-4 : P4
  pub row-5 : P5
  pub row-6 : P6
  pub row-7 : P7
  pub row-8 : P8
  pub row-9 : P9
  pub row-10 : P10
  pub row-11 : P11
  pub row-12 : P12
  pub row-12-point : P12Point
