-- The loop's invariant: what the reader still accepts of the bytes left is what the text says.
use Rattle.pictures.proofs.Readers.{accepts-next, accepts-all}
use Rattle.pictures.proofs.headers.says_size.Goals as goal

pub loop-b-init : goal.loop-b-init
loop-b-init c = c.start-reader.ensures _ _ _

pub loop-b-preserved : goal.loop-b-preserved
loop-b-preserved c =
    accepts-next _ _ _ _ _ _ _ c.loop-b-test.true c.after-reader.ensures c.loop-b.invariant

pub returns : goal.returns
returns c = accepts-all _ _ _ _ _ _ _ c.loop-b-test.false c.loop-b.invariant c.at_end.ensures
