-- `strokes::bresenham::Course::draw` meets its contract. The loop's invariant, `Drawing`: after j pixels the state is the course's
-- and the buffer has its first j pixels drawn; `drawing-turn` gives a turn. The last pixel is drawn after the loop
-- (`drawing-end`), since the state need not have a next one.
-- Assumes nothing.
use native.Mathlib.Omega.{arith}
use borrow.Author.Rules.{rules}
use Rattle.strokes.proofs.Loops.{drawing-start, drawing-turn, drawing-end}
use Rattle.strokes.proofs.bresenham.Course.draw.Goals as goal

pub loop-init : goal.loop-init
loop-init g c = drawing-start _ _ _

pub loop-preserved : goal.loop-preserved
loop-preserved g c = drawing-turn c.loop.invariant (search rules) c.new_byte.ensures c.next-state.ensures

pub returns : goal.returns
returns g c = drawing-end c.loop.invariant (search rules) c.new_byte-2.ensures (omega (arith, c.requires.places.some))
