use Rattle.strokes.proofs.Masking.{Masking}
use Rattle.strokes.proofs.masks.put_mask.Given as goal

abbrev pub invariant-loop-j : goal.invariant-loop-j
invariant-loop-j l = Masking l.d l.fn.start l.mask l.phase l.j
