-- By the tests, of the buffer that the tile covers (`tile-fits`): where one fails nothing is drawn (`blit-out`); else the visits are, all
-- of them or some.
use mathlib.Core.Path.{sym, ◌∙◌}
use native.Mathlib.Omega.{arith}
use Rattle.blits.proofs.Loops.{fitting-of, whole-fitting, blit-out, blit-none, blit-whole, blit-some}
use Rattle.blits.proofs.Planes.{tested, tile-fits}
use Rattle.blits.proofs.tiled.draw_tiled.Goals as goal

pub returns-then-not-blit_fits : goal.returns-then-not-blit_fits
returns-then-not-blit_fits c =
    let s = c.args in
    blit-out _ _ _ _ _ (sym (tested s.t s.tile _ _ _ _ c.copy_of.ensures _ c.blit_fits.ensures) ∙ c.if-not-blit_fits.true)

pub returns-then-n-eq0 : goal.returns-then-n-eq0
returns-then-n-eq0 c =
    let s = c.args in
    blit-none _ _ _ _ _ (tile-fits s.t s.tile _ _ _ _ c.copy_of.ensures _ c.blit_fits.ensures c.if-not-blit_fits.false) c.if-n-eq0.true

pub draw_whole-requires-clause-fits : goal.draw_whole-requires-clause-fits
draw_whole-requires-clause-fits c =
    let s = c.args in
    let f = tile-fits s.t s.tile _ _ _ _ c.copy_of.ensures _ c.blit_fits.ensures c.if-not-blit_fits.false in
    (omega (arith, c.if-n-blit_count.true, c.blit_count.ensures), whole-fitting _ _ _ _ _ (fitting-of _ _ _ _ _ f))

pub returns-then-n-blit_count : goal.returns-then-n-blit_count
returns-then-n-blit_count c =
    let s = c.args in
    blit-whole _ _ _ _ _ (tile-fits s.t s.tile _ _ _ _ c.copy_of.ensures _ c.blit_fits.ensures c.if-not-blit_fits.false)
    (c.if-n-blit_count.true ∙ c.blit_count.ensures) _ c.draw_whole.ensures

pub draw_visits-requires-clause-fits : goal.draw_visits-requires-clause-fits
draw_visits-requires-clause-fits c =
    let s = c.args in
    let f = tile-fits s.t s.tile _ _ _ _ c.copy_of.ensures _ c.blit_fits.ensures c.if-not-blit_fits.false in
    (omega arith, fitting-of _ _ _ _ _ f)

pub returns : goal.returns
returns c =
    let s = c.args in
    blit-some _ _ _ _ _ (tile-fits s.t s.tile _ _ _ _ c.copy_of.ensures _ c.blit_fits.ensures c.if-not-blit_fits.false) _ c.draw_visits.ensures
