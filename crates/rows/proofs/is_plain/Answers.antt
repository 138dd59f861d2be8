use Rattle.rows.proofs.Mixing.{mixed-plain-by}
use Rattle.rows.proofs.is_plain.Goals as goal

pub returns : goal.returns
returns c = mixed-plain-by _ _ c.is_none.ensures
