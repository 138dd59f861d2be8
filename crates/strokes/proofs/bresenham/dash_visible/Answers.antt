-- `strokes::bresenham::dash_visible` meets its contract. The course's places lie in the buffer (`course-places`) and are those of
-- the tracer's pixels (`plot-dashes-on`).
-- Assumes nothing.
use mathlib.Core.Path.{sym, ◌∙◌}
use borrow.Author.Rules.{rules}
use Rattle.lemmas.proofs.Booleans.{and_left, and_right}
use Rattle.strokes.proofs.Courses.{first-room, first-from-origin, course-places, stride-sum, plot-dashes-on}
use Rattle.strokes.proofs.Levels.{in_row}
use Rattle.strokes.proofs.bresenham.dash_visible.Goals as goal

pub of-course-requires : goal.of-course-requires
of-course-requires c = (first-room _ _ _ _ c.requires, first-from-origin _ _ _ _ c.requires)

pub is_row-row-requires : goal.is_row-row-requires
is_row-row-requires c = stride-sum _ _ _ c.of-course.ensures (first-room _ _ _ _ c.requires) (search rules)

pub dash_rounds-requires : goal.dash_rounds-requires
dash_rounds-requires c =
    let is = c.is_row-row.result in
    let goes = c.goes_round.result in
    let row = in_row _ (sym c.is_row-row.ensures ∙ and_left is goes c.if-row-goes_round.true) in (
      course-places _ _ _ _ c.requires _ c.of-course.ensures (search rules),
      row,
      sym c.goes_round.ensures ∙ and_right is goes c.if-row-goes_round.true,
    )

pub returns-then-row-goes_round : goal.returns-then-row-goes_round
returns-then-row-goes_round c = plot-dashes-on _ _ _ _ c.requires _ _ _ (rw c.of-course.ensures at c.dash_rounds.ensures)

pub dash-requires : goal.dash-requires
dash-requires c = course-places _ _ _ _ c.requires _ c.of-course.ensures (search rules)

pub returns : goal.returns
returns c = plot-dashes-on _ _ _ _ c.requires _ _ _ (rw c.of-course.ensures at c.dash.ensures)
