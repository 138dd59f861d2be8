use Rattle.strokes.proofs.Masking.{Mixing}
use Rattle.strokes.proofs.masks.mix_rounds.Given as goal

abbrev pub invariant-loop-j : goal.invariant-loop-j
invariant-loop-j l = Mixing l.mix l.course l.m l.n l.mask l.initial.buffer l.buffer l.j
