-- The loop keeps `Visiting`: k visits are done, and the next stands in its row and column. Each turn is a part of the visits that
-- are drawn at once (`visiting-part`, `part-visits`), after which the next stands in a new row (`visiting-turn`).
use borrow.Author.Rules.{rules}
use Prim.Native.Nat.{◌<◌}
use native.Mathlib.Omega.{arith}
use Rattle.blits.proofs.Loops.{visiting-start, visiting-next, visiting-low, visiting-part, visiting-turn}
use Rattle.blits.proofs.RowBoxes.{part-shown, part-visits}
use Rattle.blits.proofs.parts.draw_visits.Goals as goal

pub loop-k-init : goal.loop-k-init
loop-k-init g c =
    let small : c.args.size < 4294967296 = search rules in
    let sized = c.requires.what.sized in
    rw sized (visiting-start _ _ _ _ _ c.requires.fits.0 (rw sized at small) c.requires.fits.1)

pub cut-rows-requires : goal.cut-rows-requires
cut-rows-requires g c =
    let v = c.loop-k.invariant in
    let more : c.loop-k.k < c.args.n = omega arith in
    let next = visiting-next v _ _ _ c.requires.what.sized more (omega arith) c.rows_at_once-down.ensures in
    omega (arith, visiting-low v more _ _ next.0 next.1)

pub draw-requires : goal.draw-requires
draw-requires g c =
    let v = c.loop-k.invariant in
    let what = c.requires.what in
    let more : c.loop-k.k < c.args.n = omega arith in
    let next = visiting-next v _ _ _ what.sized more (omega arith) c.rows_at_once-down.ensures in
    part-shown (g.D.DrawPart.blit c.args.d) _ (visiting-part v more _ _ next.0 next.1) what.visible c.cut-columns.ensures c.cut-rows.ensures
    what.narrow

pub overflow_add-row : goal.overflow_add-row
overflow_add-row g c =
    let v = c.loop-k.invariant in
    let more : c.loop-k.k < c.args.n = omega arith in
    let next = visiting-next v _ _ _ c.requires.what.sized more (omega arith) c.rows_at_once-down.ensures in
    omega (arith, visiting-low v more _ _ next.0 next.1)

pub loop-k-preserved : goal.loop-k-preserved
loop-k-preserved g c =
    let v = c.loop-k.invariant in
    let what = c.requires.what in
    let more : c.loop-k.k < c.args.n = omega arith in
    let next = visiting-next v _ _ _ what.sized more (omega arith) c.rows_at_once-down.ensures in
    visiting-turn v more _ _ next.0 next.1 _ c.draw.auto.buffer
    (part-visits (g.D.DrawPart.blit c.args.d) (g.D.DrawPart.other c.args.d) (visiting-part v more _ _ next.0 next.1) what.visible
    c.cut-columns.ensures c.cut-rows.ensures c.loop-k.buffer c.draw.new.buffer c.draw.ensures)
