-- `strokes::bresenham::Course::fill` meets its contract. Each place is one after the one before it, or one before it, so
-- that the course is the row that `fill_row` fills, from its first place on (`fill-right`) or from its last (`fill-left`).
-- Assumes nothing.
use mathlib.Core.Path.{refl}
use Rattle.strokes.proofs.Levels.{left-room, fill-right, fill-left}
use Rattle.strokes.proofs.bresenham.Course.fill.Goals as goal

pub returns-then-self-eq0 : goal.returns-then-self-eq0
returns-then-self-eq0 c =
    fill-right _ _ _ c.requires.0 c.requires.1.level c.requires.1.next c.if-self-eq0.true _ _ _ refl c.fill_row.ensures

pub overflow_sub-place : goal.overflow_sub-place
overflow_sub-place c = left-room _ _ _ c.requires.0 c.requires.1.level c.requires.1.next c.if-self-eq0.false

pub returns-else-self-eq0 : goal.returns-else-self-eq0
returns-else-self-eq0 c =
    fill-left _ _ _ c.requires.0 c.requires.1.level c.requires.1.next c.if-self-eq0.false _ _ _ refl c.fill_row-else-self-eq0.ensures
