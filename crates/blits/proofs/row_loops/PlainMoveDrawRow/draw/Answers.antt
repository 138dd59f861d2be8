-- The row that is moved, which reads no other buffer.
use mathlib.Core.List.{[]}
use Rattle.blits.proofs.Painted.{shifted-from}
use Rattle.blits.proofs.row_loops.PlainMoveDrawRow.draw.Goals as goal

pub returns : goal.returns
returns c = let r = c.requires in shifted-from _ _ _ _ _ _ _ r.1 r.2 (c.move_plain_row.ensures _ r.0) []
