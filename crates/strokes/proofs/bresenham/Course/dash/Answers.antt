-- `strokes::bresenham::Course::dash` meets its contract. The loop's invariant, `Dashing`: after j pixels the state is the course's,
-- and buffer and pattern state are j pixels of the dashed line on; `dashing-turn` gives a turn. The last pixel comes after the
-- loop (`dashing-end`), since the state need not have a next one.
-- Assumes nothing.
use mathlib.Core.Path.{◌∙◌}
use native.Mathlib.Omega.{arith}
use borrow.Author.Rules.{rules}
use Rattle.strokes.proofs.Loops.{dashing-start, dashing-turn, dashing-end}
use Rattle.strokes.proofs.bresenham.Course.dash.Goals as goal

pub loop-init : goal.loop-init
loop-init c = dashing-start _ _ _ _ _ c.new-phase.ensures

pub loop-preserved : goal.loop-preserved
loop-preserved c =
    dashing-turn _ c.loop.invariant (λ m. search rules) c.back_pen.ensures c.bit.ensures c.draw.ensures c.next-phase.ensures c.next_by_axis-state.ensures

pub returns : goal.returns
returns c =
    dashing-end _ c.loop.invariant (λ m. search rules) c.back_pen.ensures c.bit-2.ensures c.draw-2.ensures
    (omega (arith, c.requires.some)) (c.pattern.ensures ∙ c.next.ensures.0)
