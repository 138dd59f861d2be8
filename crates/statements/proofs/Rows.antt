-- P1 to P12 hold, as rows of one statement.
-- Assumes nothing.
use mathlib.Core.Path.{refl}
use Rattle.geometry.specs.Coordinates.{point_of}
use Rattle.raster.proofs.Examples.{p1, p2, p3}
use Rattle.geometry.proofs.Examples.{p4, p5, p6}
use Rattle.registers.proofs.Examples.{p7}
use Rattle.entries.proofs.Examples.{p8, p11, p12}
use Rattle.commands.proofs.Examples.{p9, p10}
use Rattle.statements.specs.Examples.{P12Point, BoardsToCheck}

p12-point : P12Point
unfolding point_of
p12-point = (refl, refl)

pub boards-to-check : BoardsToCheck
boards-to-check =
    record {
      row-1 = p1;
      row-2 = p2;
      row-3 = p3;
      row-4 = p4;
      row-5 = p5;
      row-6 = p6;
      row-7 = p7;
      row-8 = p8;
      row-9 = p9;
      row-10 = p10;
      row-11 = p11;
      row-12 = p12;
      row-12-point = p12-point;
    }
