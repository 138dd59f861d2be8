-- `strokes::bresenham::draw_visible` meets its contract. The course's places lie in the buffer (`course-places`) and are those of
-- the tracer's pixels, so that what is plotted on the course is plotted at them (`plots-on`).
-- Assumes nothing.
use mathlib.Core.Path.{◌≡◌, sym, ◌∙◌}
use borrow.Author.Rules.{rules}
use Rattle.strokes.proofs.Courses.{first-room, first-from-origin, course-places, stride-sum, plots-on}
use Rattle.strokes.proofs.Levels.{in_row}
use Rattle.strokes.proofs.Plots.{flat-drawn}
use Rattle.strokes.proofs.bresenham.draw_visible.Goals as goal

pub of-course-requires : goal.of-course-requires
of-course-requires c = (first-room _ _ _ _ c.requires, first-from-origin _ _ _ _ c.requires)

pub is_row-requires : goal.is_row-requires
is_row-requires c = stride-sum _ _ _ c.of-course.ensures (first-room _ _ _ _ c.requires) (search rules)

pub fill-requires : goal.fill-requires
fill-requires c =
    (course-places _ _ _ _ c.requires _ c.of-course.ensures (search rules), in_row _ (sym c.is_row.ensures ∙ c.if-is_row.true))

pub returns-then-is_row : goal.returns-then-is_row
returns-then-is_row c = plots-on _ _ _ _ c.requires _ _ _ (rw c.of-course.ensures at c.fill.ensures)

pub draw-requires-clause-places : goal.draw-requires-clause-places
draw-requires-clause-places c = course-places _ _ _ _ c.requires _ c.of-course.ensures (search rules)

pub returns-then-pen-eq0 : goal.returns-then-pen-eq0
returns-then-pen-eq0 c = plots-on _ _ _ _ c.requires _ _ _ (rw c.of-course.ensures at (c.draw.ensures c.args.pen
    (λ old new small made. let stored : new ≡ c.args.pen.flip = search rules in stored ∙ flat-drawn c.args.pen old c.if-pen-eq0.true)))

pub mix-requires : goal.mix-requires
mix-requires c = course-places _ _ _ _ c.requires _ c.of-course.ensures (search rules)

pub returns : goal.returns
returns c = plots-on _ _ _ _ c.requires _ _ _ (rw c.of-course.ensures at c.mix.ensures)
