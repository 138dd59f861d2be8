use mathlib.Core.Path.{◌≡◌}
use Rattle.rows.proofs.Within.{is-back, visits}
use Rattle.rows.proofs.by_bytes.move_bytes.Given as goal

abbrev pub invariant-loop-k : goal.invariant-loop-k
invariant-loop-k g l = l.buffer ≡ visits (is-back g.row.BACK) (g.I.Ink.byte l.ink) l.n l.at l.from l.k l.initial.buffer
