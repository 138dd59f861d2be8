-- By the direction: both ends by `saturating_sub`.
use Rattle.blits.specs.Ranges.{range_of}
use Rattle.blits.proofs.ranges.range_of.Goals as goal

pub returns-then-back : goal.returns-then-back
unfolding range_of
returns-then-back c = rw (c.saturating_sub-then-back.ensures, c.saturating_sub.ensures, c.if-back.true)

pub returns : goal.returns
unfolding range_of
returns c = rw (c.saturating_sub-3.ensures, c.saturating_sub-2.ensures, c.if-back.false)
