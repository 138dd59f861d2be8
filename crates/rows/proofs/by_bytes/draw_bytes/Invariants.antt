use mathlib.Core.Path.{◌≡◌}
use Rattle.rows.specs.Rows.{filled}
use Rattle.rows.proofs.by_bytes.draw_bytes.Given as goal

abbrev pub invariant-loop-k : goal.invariant-loop-k
invariant-loop-k l = l.buffer ≡ filled l.pen l.k l.initial.buffer l.at
