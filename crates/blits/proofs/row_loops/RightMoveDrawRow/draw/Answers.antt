-- The row that is moved, which reads no other buffer.
use mathlib.Core.Path.{refl}
use mathlib.Core.Bool.{false}
use mathlib.Core.List.{[]}
use Rattle.blits.proofs.Painted.{moved-right}
use Rattle.blits.proofs.row_loops.RightMoveDrawRow.draw.Goals as goal

pub returns : goal.returns
returns c = let r = c.requires in moved-right false _ _ _ _ _ _ refl r.0 r.1 c.move_row.ensures []
