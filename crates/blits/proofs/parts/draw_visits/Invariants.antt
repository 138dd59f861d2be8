use Prim.Native.Nat.{◌-◌}
use Rattle.blits.proofs.Loops.{Visiting}
use Rattle.blits.proofs.parts.draw_visits.Given as goal

abbrev pub invariant-loop-k : goal.invariant-loop-k
invariant-loop-k g l =
    Visiting (g.D.DrawPart.blit l.d) (g.D.DrawPart.other l.d) l.first l.n l.initial.buffer l.buffer l.row l.column l.k

abbrev pub decreases-loop-k : goal.decreases-loop-k
decreases-loop-k g l = l.n - l.k
