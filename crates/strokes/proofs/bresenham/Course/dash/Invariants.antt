use Rattle.strokes.proofs.Loops.{Dashing}
use Rattle.strokes.proofs.bresenham.Course.dash.Given as goal

abbrev pub invariant-loop : goal.invariant-loop
invariant-loop l = Dashing l.fn.dashes l.self l.initial.buffer l.fn.pattern l.buffer l.phase l.state l.counter
