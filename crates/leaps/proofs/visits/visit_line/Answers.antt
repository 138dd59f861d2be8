-- With no pixel left, or on a line of one, nothing is done (`stroke-none`); else the stroke of the ink, on what the counts say is left
-- (`stroke-some`).
use Rattle.leaps.proofs.Strokes.{stroke-none, stroke-some}
use Rattle.leaps.proofs.visits.visit_line.Goals as goal

pub returns-then-s-count : goal.returns-then-s-count
returns-then-s-count g c =
    let s = c.args in
    rw c.none.ensures
    (stroke-none s.budget s.extent s.e s.own.now c.requires.line _ c.command_of-c.ensures _ _ c.line_start-from.ensures c.line_count-count.ensures)

pub returns : goal.returns
returns g c =
    let s = c.args in
    rw c.some.ensures
    (stroke-some s.budget s.extent s.e s.own.now c.requires.line _ c.command_of-c.ensures _ _ c.line_start-from.ensures c.line_count-count.ensures
    _ c.new-s.ensures c.if-s-count.false _ _
    (rw (c.window_of-window.ensures, c.line_start-from.ensures, c.command_of-c.ensures, c.requires.inked _ _) at c.stroke-pattern.ensures))
