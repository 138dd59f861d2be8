-- `strokes::lines::Line::between` meets its contract: its steps and axes are those of the two points (`x-axis`, `y-axis`).
-- Assumes nothing.
use mathlib.Core.Path.{refl}
use Prim.Native.Nat.{◌<◌}
use native.Mathlib.Omega.{arith}
use Rattle.geometry.specs.Coordinates.{point_of}
use Rattle.geometry.specs.Line.{steps_of}
use Rattle.strokes.proofs.Traced.{x-axis, y-axis}
use Rattle.strokes.proofs.lines.Line.between.Goals as goal

pub invariant_of-result : goal.invariant_of-result
invariant_of-result c =
    let some : 0 < steps_of (point_of c.args.from) (point_of c.args.to) = omega (arith, c.if-steps-eq0.false, c.line_steps-steps.ensures) in
    rw (c.point_of.ensures, c.point_of-2.ensures, c.line_steps-steps.ensures)
    (record { steps_are = refl; x_axis = x-axis _ _ some; y_axis = y-axis _ _ some })
