-- By whether the source byte is KEY.
use Rattle.rows.proofs.Mixing.{mixed-key, mixed-drawn}
use Rattle.rows.proofs.inks.InTurnInk.byte.Goals as goal

pub returns-then-eq : goal.returns-then-eq
returns-then-eq c = mixed-key _ _ _ _ c.eq.ensures c.if-eq.true

pub returns-else-eq : goal.returns-else-eq
returns-else-eq c = mixed-drawn _ _ _ _ c.eq.ensures c.if-eq.false
