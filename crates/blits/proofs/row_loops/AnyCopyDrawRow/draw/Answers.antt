-- The row that is copied.
use mathlib.Core.Bool.{false}
use Rattle.blits.proofs.Painted.{copied-from}
use Rattle.blits.proofs.row_loops.AnyCopyDrawRow.draw.Goals as goal

pub returns : goal.returns
returns c = let r = c.requires in copied-from false _ _ _ _ _ _ _ r.0 r.1 c.copy_row.ensures
