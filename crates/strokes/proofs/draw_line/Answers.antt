-- `strokes::draw_line` meets its contract. A line of one pixel and what does not fit draw nothing (`stroke-unfit`). Where no pixel
-- is visible, all leave the buffer as it was (`hidden-pixels`); else `draw_visible` plots the visible ones, and those before and
-- after them do nothing (`visible-pixels`).
-- Assumes nothing.
use mathlib.Core.Path.{sym}
use lib.ListN.{length}
use Rattle.strokes.proofs.Drawn.{fit_of, stretch-of, visible-pixels, hidden-pixels, stroke-fit, stroke-unfit, one-pixel}
use Rattle.strokes.proofs.draw_line.Goals as goal

pub returns-in_default : goal.returns-in_default
returns-in_default c = stroke-unfit _ _ _ _ _ _ _ _ (one-pixel c.args.width c.args.window _ _ c.args.first c.args.n (length c.args.buffer.now) c.in_default.ensures)

pub returns-then-not-stroke_fits : goal.returns-then-not-stroke_fits
returns-then-not-stroke_fits c =
    rw (← c.in-Some.ensures.0, ← c.in-Some.ensures.1) (stroke-unfit _ _ _ _ _ _ _ _ (sym c.if-not-stroke_fits.ensures))

pub returns-in_default-visible : goal.returns-in_default-visible
returns-in_default-visible c =
    rw (← c.in-Some.ensures.0, ← c.in-Some.ensures.1)
    (stroke-fit _ _ _ _ _ _ _ _ _ (sym c.if-not-stroke_fits.ensures) (hidden-pixels _ _ _ _ _ _ c.in_default-visible.ensures _ _))

pub draw_visible-requires : goal.draw_visible-requires
draw_visible-requires c =
    let l = c.in-Some.line in
    let fit = fit_of c.args.width c.args.window _ _ c.args.first c.args.n (length c.args.buffer.now) (sym c.if-not-stroke_fits.ensures) in
    let seen = c.in-Some-visible.ensures in
    rw c.len.ensures (stretch-of _ _ _ _ _ _ _ _ _ _ l.steps_are l.x_axis l.y_axis fit seen.0 seen.1 c.tracer_at-tracer.ensures)

pub returns : goal.returns
returns c =
    let fit = fit_of c.args.width c.args.window _ _ c.args.first c.args.n (length c.args.buffer.now) (sym c.if-not-stroke_fits.ensures) in
    let seen = c.in-Some-visible.ensures in
    rw (← c.in-Some.ensures.0, ← c.in-Some.ensures.1)
    (stroke-fit _ _ _ _ _ _ _ _ _ fit.whole
    (visible-pixels _ _ _ _ _ _ seen.0 _ fit.steps-in fit.pixels-in seen.1 c.tracer_at-tracer.ensures _ _ _ _ (rw c.len.ensures at c.draw_visible.ensures)))
