-- An index is below 2^32 (`index-small`).
use native.Mathlib.Omega.{arith}
use Rattle.leaps.proofs.Rows.{index-small}
use Rattle.leaps.proofs.visits.stretch.Goals as goal

pub overflow_add-result : goal.overflow_add-result
overflow_add-result c =
    let s = c.args in
    omega (arith, index-small s.window s.e.registers _ _ c.visible_index-2.ensures (omega (arith, c.well_formed.0)))
