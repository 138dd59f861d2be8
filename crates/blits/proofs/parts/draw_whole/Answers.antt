-- All rows are shown as one part (`whole-shown`), and it is all visits (`whole-drawn`).
use borrow.Author.Rules.{rules}
use Prim.Native.Nat.{◌<◌}
use Rattle.blits.proofs.RowBoxes.{whole-shown, whole-drawn}
use Rattle.blits.proofs.parts.draw_whole.Goals as goal

pub draw-requires : goal.draw-requires
draw-requires g c =
    let small : c.args.size < 4294967296 = search rules in
    let r = c.requires in
    whole-shown (g.D.DrawPart.blit c.args.d) (g.D.DrawPart.other c.args.d) c.args.buffer.now r.what small r.fits.0 r.fits.1 c.cut-columns.ensures
    c.cut-rows.ensures

pub returns : goal.returns
returns g c =
    let small : c.args.size < 4294967296 = search rules in
    let r = c.requires in
    whole-drawn (g.D.DrawPart.blit c.args.d) (g.D.DrawPart.other c.args.d) c.args.buffer.now r.what small r.fits.0 r.fits.1 c.cut-columns.ensures
    c.cut-rows.ensures _ c.draw.ensures
