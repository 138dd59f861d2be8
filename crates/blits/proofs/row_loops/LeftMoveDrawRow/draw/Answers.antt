-- The row that is moved, which reads no other buffer.
use mathlib.Core.Path.{refl}
use mathlib.Core.Bool.{true}
use mathlib.Core.List.{[]}
use Rattle.blits.proofs.Painted.{moved-left}
use Rattle.blits.proofs.row_loops.LeftMoveDrawRow.draw.Goals as goal

pub returns : goal.returns
returns c = let r = c.requires in moved-left true _ _ _ _ _ _ refl r.0 r.1 c.move_row_back.ensures []
