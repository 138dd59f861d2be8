-- The loop keeps `Filled`: j rows are read.
use Rattle.lemmas.proofs.Filling.{fill_end}
use Rattle.pramolyt.proofs.fill_image.tile_in.Goals as goal

pub returns : goal.returns
returns c = let o = c.loop-j in rw (fill_end _ _ _ o.row-items o.j o.invariant c.loop-j-test.false)
