-- The loop keeps `Filled`: i pixels are read.
use Rattle.lemmas.proofs.Filling.{fill_end}
use Rattle.pramolyt.proofs.fill_image.row_in.Goals as goal

pub returns : goal.returns
returns c = let o = c.loop-i in rw (fill_end _ _ _ o.pixel-items o.i o.invariant c.loop-i-test.false)
