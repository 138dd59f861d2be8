-- `strokes::lines::Line::visible` meets its contract. Where both ends of the line are visible all its pixels are
-- (`visible-whole`); else `clipped` finds those that are.
-- Assumes nothing.
use Rattle.strokes.proofs.Crossings.{visible-whole}
use Rattle.strokes.proofs.lines.Line.visible.Goals.{then-is_within, else-is_within}
use Rattle.strokes.proofs.lines.Line.visible.Goals as goal

pub returns : goal.returns
returns c = (
  elim c.if-is_within.branch [
    | then-is_within w ↦ rw w.seen-is (visible-whole _ _ _ _ _ _ (rw c.args.self.steps_are at c.requires) c.is_within.ensures w.if-is_within.true)
    | else-is_within w ↦ rw w.seen-is w.clipped-seen.ensures
  ],
  c.if-seen.false,
)
