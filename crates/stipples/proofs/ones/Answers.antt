-- `stipples::ones` meets its contract. The result is `ones_of` operation by operation.
-- Assumes nothing.
use Rattle.stipples.specs.Words.{ones_of}
use Rattle.stipples.proofs.ones.Goals as goal

pub returns : goal.returns
unfolding ones_of
returns c = rw c.eight-tested.ensures
