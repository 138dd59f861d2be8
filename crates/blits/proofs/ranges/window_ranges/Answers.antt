-- What the calls ensure makes the fields of `window_ranges`.
use Rattle.blits.proofs.Bounds.{x_below, y-below}
use Rattle.blits.proofs.ranges.window_ranges.Goals as goal

pub range_of-requires : goal.range_of-requires
range_of-requires c = rw c.point_of-target.ensures (x_below _)

pub range_of-requires-2 : goal.range_of-requires-2
range_of-requires-2 c = rw c.point_of-target.ensures (y-below _)
