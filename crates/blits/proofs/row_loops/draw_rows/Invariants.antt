use Rattle.blits.proofs.Stepping.{Stepped}
use Rattle.blits.proofs.row_loops.draw_rows.Given as goal

abbrev pub invariant-loop-k : goal.invariant-loop-k
invariant-loop-k g l =
    Stepped (λ at from. g.R.DrawRow.drawn l.row at from l.rows.n) l.rows l.initial.buffer l.buffer l.at l.from l.k
