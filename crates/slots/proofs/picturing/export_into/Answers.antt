-- A number above 1 names no buffer (`export-unnamed`); else the answer is that of writing the picture (`export-by`).
use native.Mathlib.Omega.{arith}
use mathlib.Core.Path.{refl}
use Rattle.answers.proofs.Refusals.{refused}
use Rattle.slots.proofs.Rasters.{export-unnamed, export-by}
use Rattle.slots.proofs.picturing.export_into.Goals as goal

pub returns-then-number-gt1 : goal.returns-then-number-gt1
returns-then-number-gt1 c = export-unnamed _ _ _ _ c.if-number-gt1.true

pub returns-in_err-write_picture : goal.returns-in_err-write_picture
returns-in_err-write_picture c =
    rw (refused c.from_residual.ensures.1 refl)
    (export-by _ _ _ _ (omega (arith, c.if-number-gt1.false)) _ _ _ c.write_picture.ensures c.in_err-write_picture.was)

pub returns : goal.returns
returns c =
    export-by _ _ _ _ (omega (arith, c.if-number-gt1.false)) _ _ _ c.write_picture.ensures c.in_ok-write_picture.was
