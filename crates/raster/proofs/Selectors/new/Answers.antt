-- `raster::Selectors::new` meets its contract: the pens of a source byte of all ones and of one of all zeros give the four
-- bytes of `selectors_of`.
-- Assumes nothing.
use Rattle.raster.specs.Selectors.{selectors_of}
use Rattle.raster.proofs.Selectors.new.Goals as goal

pub returns : goal.returns
unfolding selectors_of
returns c =
    let o = c.before.before.before.before in
    rw (o.new-ones.ensures, o.new-zeros.ensures)
