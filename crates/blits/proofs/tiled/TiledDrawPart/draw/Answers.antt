-- No columns or no rows draw nothing (`none-shown`); others are rows of the tile (`tiled-rows`).
use mathlib.Core.Path.{sym, ◌∙◌}
use native.Mathlib.Omega.{arith}
use Rattle.blits.specs.Tiled.{copy_of}
use Rattle.blits.proofs.Visits.{x-from}
use Rattle.blits.proofs.Bounds.{x_below, y-below}
use Rattle.blits.proofs.Boxes.{none-shown, some-shown}
use Rattle.blits.proofs.Planes.{lines-far, tiled-rows}
use Rattle.blits.proofs.tiled.TiledDrawPart.draw.Goals as goal

pub returns-then-is_empty : goal.returns-then-is_empty
returns-then-is_empty c =
    let b = copy_of c.args.self.tiling in
    none-shown b.paint b.width b.to b.from b.direction c.args.part.columns c.args.part.rows _ _ (sym c.is_empty.ensures ∙ c.if-is_empty.true)

pub left_edge-x-requires : goal.left_edge-x-requires
left_edge-x-requires c =
    let t = c.args.self.tiling in
    let some = some-shown c.args.part.columns c.args.part.rows (sym c.is_empty.ensures ∙ c.if-is_empty.false) in
    rw c.point_of-corner.ensures (x-from t.to, x_below t.to, some.0, c.requires.fits.across-small)

pub along-requires : goal.along-requires
along-requires c =
    let some = some-shown c.args.part.columns c.args.part.rows (sym c.is_empty.ensures ∙ c.if-is_empty.false) in
    rw c.point_of-corner.ensures (omega (arith, y-below c.args.self.tiling.to, c.requires.fits.down-small, some.1))

pub draw_rows-requires : goal.draw_rows-requires
draw_rows-requires c =
    let d = c.args.self in
    let some = some-shown c.args.part.columns c.args.part.rows (sym c.is_empty.ensures ∙ c.if-is_empty.false) in
    let target = c.requires.fits.target some.0 some.1 in
    rw (c.len-2.ensures, c.len.ensures, c.along.ensures, c.place_at.ensures, c.point_of-corner.ensures)
    (record {
      each = λ k h. (target.within k h, record { tile = d.tile.now; twice = d.twice });
      far = target.far;
      source-far = lines-far d.tiling d.tile.now c.args.part.columns c.args.part.rows _ c.requires some.0 some.1;
    })

pub returns : goal.returns
returns c =
    let d = c.args.self in
    let some = some-shown c.args.part.columns c.args.part.rows (sym c.is_empty.ensures ∙ c.if-is_empty.false) in
    (rw (c.len-2.ensures, c.len.ensures, c.along.ensures, c.left_edge-x.ensures, c.place_at.ensures, c.point_of-corner.ensures) at c.draw_rows.ensures)
    ∙ tiled-rows d.tiling d.tile.now c.args.part.columns c.args.part.rows _ c.requires some.0 some.1 d.wide.now c.args.buffer.now d.twice
