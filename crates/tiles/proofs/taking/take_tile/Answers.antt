-- Each row is the buffer's from its place on.
use Rattle.std.proofs.Common.{rules}
use Rattle.tiles.proofs.Pixels.{tile-by}
use Rattle.tiles.proofs.taking.take_tile.Goals as goal

pub returns-then-at-width : goal.returns-then-at-width
returns-then-at-width c =
    tile-by c.args.buffer.now c.args.width c.args.at c.tile_by.result c.tile_by.ensures.long (λ j h. let e = c.tile_by.ensures.each j h in search rules)

pub returns : goal.returns
returns c =
    tile-by c.args.buffer.now c.args.width c.args.at c.tile_by-2.result c.tile_by-2.ensures.long (λ j h. let e = c.tile_by-2.ensures.each j h in search rules)
