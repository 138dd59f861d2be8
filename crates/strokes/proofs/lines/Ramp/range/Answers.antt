-- `strokes::lines::Ramp::range` meets its contract. On an axis that goes up the pixels between two borders are those below the
-- one and not below the other (`range-up`); on one that goes down the borders exchange (`range-down`).
-- Assumes nothing.
use native.Mathlib.Omega.{arith}
use Rattle.strokes.proofs.Crossings.{range-up, range-down}
use Rattle.strokes.proofs.lines.Ramp.range.Goals as goal

pub returns-then-a-b : goal.returns-then-a-b
returns-then-a-b c =
    range-up _ _ _ _ _ _ _ c.args.self.axis.some c.if-a-b.true (rw c.saturating_sub.ensures at c.before-then-a-b.ensures)
    (rw c.saturating_sub-then-a-b.ensures at c.before-then-a-b-2.ensures)

pub returns : goal.returns
returns c =
    range-down _ _ _ _ _ _ _ c.args.self.axis.some (omega arith) (rw c.saturating_sub-2.ensures at c.before-2.ensures)
    (rw c.saturating_sub-3.ensures at c.before-3.ensures)
