-- The row that is copied.
use mathlib.Core.Bool.{false}
use Rattle.blits.proofs.Painted.{copied-from}
use Rattle.blits.proofs.row_loops.PlainCopyDrawRow.draw.Goals as goal

pub returns : goal.returns
returns c = let r = c.requires in copied-from false _ _ _ _ _ _ _ r.1 r.2 (c.copy_plain_row.ensures _ r.0)
