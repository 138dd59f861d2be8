-- Where neither selector of the old byte has a bit, it does not count (`mixed-covers`).
use Rattle.rows.proofs.Mixing.{mixed-covers}
use Rattle.rows.proofs.covers.Goals as goal

pub returns : goal.returns
returns c = mixed-covers _
