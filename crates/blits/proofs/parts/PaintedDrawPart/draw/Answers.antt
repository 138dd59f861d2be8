-- No columns or no rows draw nothing (`none-shown`); others are the rows from their corners' places (`box-painted`).
use mathlib.Core.Path.{sym, ◌∙◌}
use native.Mathlib.Omega.{arith}
use Rattle.blits.proofs.Boxes.{none-shown, box-painted}
use Rattle.blits.proofs.parts.PaintedDrawPart.draw.Goals as goal

pub returns-then-is_empty : goal.returns-then-is_empty
returns-then-is_empty c =
    let b = c.args.self.blit in
    none-shown b.paint b.width b.to b.from b.direction c.args.part.columns c.args.part.rows _ _ (sym c.is_empty.ensures ∙ c.if-is_empty.true)

pub returns : goal.returns
returns c =
    let b = c.args.self.blit in
    box-painted b.paint b.width b.to b.from b.direction c.args.part.columns c.args.part.rows _ _ _ _ _ _ _ _ c.source_width-stride.ensures
    c.place_at.ensures c.place_at-2.ensures (omega (arith, c.len.ensures)) (omega (arith, c.len-2.ensures)) c.paint_rows.ensures
