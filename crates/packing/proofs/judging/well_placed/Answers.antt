-- Each return is the case of `placed` that the test of the place chose.
use borrow.Author.Tests.{lt-ltb, le-ltb}
use Rattle.packing.proofs.judging.well_placed.Goals as goal

pub returns-then-place-count : goal.returns-then-place-count
returns-then-place-count c = rw (lt-ltb _ _ c.if-place-count.true)

pub returns : goal.returns
returns c = rw (le-ltb _ _ c.if-place-count.false)
