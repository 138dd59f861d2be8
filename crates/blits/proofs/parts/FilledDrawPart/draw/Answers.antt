-- No columns or no rows draw nothing (`none-shown`); others are the rows from their corner's place (`box-painted`), by one pen.
use mathlib.Core.Path.{refl, ap, sym, ◌∙◌}
use Rattle.geometry.specs.Blit.{right_to_left}
use Rattle.blits.specs.Places.{place_at}
use Rattle.blits.specs.Rows.{box_of}
use Rattle.blits.specs.declared.Paint.TheVariants.{Solid}
use Rattle.blits.proofs.Boxes.{none-shown, box-painted}
use Rattle.blits.proofs.parts.FilledDrawPart.draw.Goals as goal

pub returns-then-is_empty : goal.returns-then-is_empty
returns-then-is_empty c =
    let b = c.args.self.painted.blit in
    none-shown b.paint b.width b.to b.from b.direction c.args.part.columns c.args.part.rows _ _ (sym c.is_empty.ensures ∙ c.if-is_empty.true)

pub returns : goal.returns
returns c =
    let d = c.args.self in
    let b = d.painted.blit in
    let across = c.args.part.columns in
    let down = c.args.part.rows in
    let other = d.painted.other.now in
    let source = place_at b.from b.width b.direction across.from across.past down.from in
    box-painted (Solid d.pen) b.width b.to b.from b.direction across down other _ b.width _ source _ _ _ refl c.place_at.ensures refl
    c.len.ensures c.len-2.ensures (c.fill_rows.ensures (right_to_left b.direction) b.width source other)
    ∙ ap (λ p. box_of p b.width b.to b.from b.direction across down other c.args.buffer.now) (sym d.solid)
