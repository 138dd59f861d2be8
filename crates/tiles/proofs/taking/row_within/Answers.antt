use Rattle.tiles.proofs.Pixels.{row-had}
use Rattle.tiles.proofs.taking.row_within.Goals as goal

pub returns : goal.returns
returns c = row-had c.args.buffer.now _ c.args.at c.requires c.copy_from_slice.ensures.after
