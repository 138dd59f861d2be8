use mathlib.Core.Path.{◌≡◌}
use Prim.Native.Nat.{◌*◌}
use Rattle.rows.specs.Rows.{mixed}
use Rattle.rows.proofs.Within.{is-back, visits}
use Rattle.rows.proofs.by_blocks.blocks.Given as goal

abbrev pub invariant-loop-b : goal.invariant-loop-b
invariant-loop-b g l = l.buffer ≡ visits (is-back g.row.BACK) (mixed l.mix) l.n l.at l.from (32 * l.b) l.initial.buffer
