-- `stipples::Inks::draw` meets its contract: with what `spread` ensures, the result is `inked` operation by operation.
-- Assumes nothing.
use Rattle.stipples.specs.Words.{inked}
use Rattle.stipples.proofs.Inks.draw.Goals as goal

pub returns : goal.returns
unfolding inked
returns c = rw c.spread-ones.ensures
