-- The equations of both ranges and of what they share, by whether pixels are read.
use Rattle.blits.specs.Ranges.{visible_range}
use Rattle.blits.proofs.ranges.visible_range.Goals as goal

pub returns-then-reads : goal.returns-then-reads
unfolding visible_range
returns-then-reads c =
    rw (c.min-past.ensures, c.max-from.ensures, c.range_of-source.ensures, c.range_of-target.ensures, c.if-reads.true)

pub returns : goal.returns
unfolding visible_range
returns c = rw (c.range_of-target.ensures, c.if-reads.false)
