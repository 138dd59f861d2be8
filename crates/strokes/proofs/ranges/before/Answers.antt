-- `strokes::ranges::before` meets its contract. No pixel has gone less than nothing (`before-none`), each less than what lies past
-- the axis' end (`before-all`), and between the two `count` counts them (`before-count`).
-- Assumes nothing.
use Rattle.strokes.proofs.Crossings.{before-all, before-count}
use Rattle.strokes.proofs.ranges.before.Goals as goal

pub returns-then-d-way : goal.returns-then-d-way
returns-then-d-way c = before-all _ _ _ _ c.if-d-way.true

pub returns : goal.returns
returns c = before-count _ _ _ _ _ c.if-way-eq0.false c.count.ensures
