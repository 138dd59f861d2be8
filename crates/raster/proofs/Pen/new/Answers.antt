-- `raster::Pen::new` meets its contract: `new_byte` on an old byte of all ones and on one of all zeros gives the two bytes
-- of `pen_of`.
-- Assumes nothing.
use Rattle.raster.specs.Selectors.{pen_of}
use Rattle.raster.proofs.Pen.new.Goals as goal

pub returns : goal.returns
unfolding pen_of
returns c = rw (c.new_byte-ones.ensures, c.new_byte-zeros.ensures)
