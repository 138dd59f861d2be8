-- The row fits, and its pixels are those of the rows that are there, each twice (`wide-twice`).
use borrow.Author.Tests.{le-leb}
use Rattle.rows.specs.Rows.{tiled_row}
use Rattle.blits.specs.Tiled.{wide_pixel}
use Rattle.blits.proofs.Planes.{wide-twice}
use Rattle.blits.proofs.tiled.TileRowDrawRow.draw.Goals as goal

pub returns : goal.returns
unfolding tiled_row
returns c =
    let wide = c.args.self.wide.now in
    rw (le-leb _ _ c.requires.0) at (c.tile_row.ensures (wide_pixel wide c.args.from) (wide-twice wide c.args.from c.requires.1))
