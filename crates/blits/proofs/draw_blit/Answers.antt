-- By the tests: where one fails nothing is drawn (`blit-out`); else the visits are, all of them or some.
use borrow.Author.Rules.{rules}
use mathlib.Core.Path.{refl, ap, sym, ◌∙◌}
use Prim.Native.Nat.{◌<◌}
use Rattle.blits.specs.Blits.{reads}
use Rattle.blits.proofs.Loops.{blit-out, blit-none, blit-whole, blit-some}
use Rattle.blits.proofs.RowBoxes.{window-alone}
use Rattle.blits.proofs.draw_blit.Goals as goal

pub returns-then-not-blit_fits : goal.returns-then-not-blit_fits
returns-then-not-blit_fits c = blit-out _ _ _ _ _ (sym c.blit_fits.ensures ∙ c.if-not-blit_fits.true)

pub returns-then-n-eq0 : goal.returns-then-n-eq0
returns-then-n-eq0 c = blit-none _ _ _ _ _ (sym c.blit_fits.ensures ∙ c.if-not-blit_fits.false) c.if-n-eq0.true

pub draw_whole-requires-clause-what : goal.draw_whole-requires-clause-what
draw_whole-requires-clause-what c =
    let narrow : c.args.b.width < 4294967296 = search rules in
    record { visible = c.window_ranges-shown.ensures ∙ window-alone c.args.b (ap reads c.in-Solid.is); sized = refl; narrow = narrow }

pub returns-in-Solid : goal.returns-in-Solid
returns-in-Solid c =
    blit-whole _ _ _ _ _ (sym c.blit_fits.ensures ∙ c.if-not-blit_fits.false) (c.if-n-blit_count.true ∙ c.blit_count.ensures) _ c.draw_whole.ensures

pub returns-then-n-blit_count : goal.returns-then-n-blit_count
returns-then-n-blit_count c =
    blit-whole _ _ _ _ _ (sym c.blit_fits.ensures ∙ c.if-not-blit_fits.false) (c.if-n-blit_count.true ∙ c.blit_count.ensures) _
    c.draw_whole-then-n-blit_count.ensures

pub returns : goal.returns
returns c = blit-some _ _ _ _ _ (sym c.blit_fits.ensures ∙ c.if-not-blit_fits.false) _ c.draw_visits.ensures
