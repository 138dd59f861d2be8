use Rattle.strokes.proofs.Loops.{Drawing}
use Rattle.strokes.proofs.bresenham.Course.draw.Given as goal

abbrev pub invariant-loop : goal.invariant-loop
invariant-loop g l = Drawing (goal.F-post g l.new_byte) l.self l.initial.buffer l.buffer l.state l.counter
