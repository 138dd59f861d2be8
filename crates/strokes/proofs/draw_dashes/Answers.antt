-- `strokes::draw_dashes` meets its contract. A line of one pixel and what does not fit draw nothing (`dashes-unfit`). Where no pixel
-- is visible, all move the pattern alone (`hidden-dashes`); else `dash_visible` plots the visible ones, and those before and after
-- them move the pattern alone (`visible-dashes`).
-- Assumes nothing.
use mathlib.Core.Path.{sym}
use lib.ListN.{length}
use Rattle.strokes.proofs.Drawn.{fit_of, stretch-of, visible-dashes, hidden-dashes, dashes-fit, dashes-unfit, one-pixel}
use Rattle.strokes.proofs.draw_dashes.Goals as goal

pub returns-in_default : goal.returns-in_default
returns-in_default c = dashes-unfit _ _ _ _ _ _ _ _ (one-pixel c.args.width c.args.window _ _ c.args.first c.args.n (length c.args.buffer.now) c.in_default.ensures)

pub returns-then-not-stroke_fits : goal.returns-then-not-stroke_fits
returns-then-not-stroke_fits c =
    rw (← c.in-Some.ensures.0, ← c.in-Some.ensures.1) (dashes-unfit _ _ _ _ _ _ _ _ (sym c.if-not-stroke_fits.ensures))

pub returns-in_default-visible : goal.returns-in_default-visible
returns-in_default-visible c =
    rw (← c.in-Some.ensures.0, ← c.in-Some.ensures.1)
    (dashes-fit _ _ _ _ _ _ _ _ _ (sym c.if-not-stroke_fits.ensures) (hidden-dashes _ _ _ _ _ _ c.in_default-visible.ensures _ _ _ c.after.ensures))

pub dash_visible-leaving-requires : goal.dash_visible-leaving-requires
dash_visible-leaving-requires c =
    let l = c.in-Some.line in
    let fit = fit_of c.args.width c.args.window _ _ c.args.first c.args.n (length c.args.buffer.now) (sym c.if-not-stroke_fits.ensures) in
    let seen = c.in-Some-visible.ensures in
    rw c.len.ensures (stretch-of _ _ _ _ _ _ _ _ _ _ l.steps_are l.x_axis l.y_axis fit seen.0 seen.1 c.tracer_at-tracer.ensures)

pub returns : goal.returns
returns c =
    let fit = fit_of c.args.width c.args.window _ _ c.args.first c.args.n (length c.args.buffer.now) (sym c.if-not-stroke_fits.ensures) in
    let seen = c.in-Some-visible.ensures in
    rw (← c.in-Some.ensures.0, ← c.in-Some.ensures.1)
    (dashes-fit _ _ _ _ _ _ _ _ _ fit.whole
    (visible-dashes _ _ _ _ _ _ seen.0 _ fit.steps-in fit.pixels-in seen.1 c.tracer_at-tracer.ensures _ _ _ _ _ _
    c.after-entering.ensures (rw c.len.ensures at c.dash_visible-leaving.ensures) c.after-2.ensures))
