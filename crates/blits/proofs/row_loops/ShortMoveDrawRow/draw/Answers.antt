-- The row that is moved, which reads no other buffer.
use mathlib.Core.List.{[]}
use Rattle.blits.proofs.Painted.{shifted-from}
use Rattle.blits.proofs.row_loops.ShortMoveDrawRow.draw.Goals as goal

pub returns : goal.returns
returns c = let r = c.requires in shifted-from _ _ _ _ _ _ _ r.2 r.3 (c.move_short_row.ensures r.0 r.1) []
