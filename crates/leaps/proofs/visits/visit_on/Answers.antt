-- Whichever buffer the command draws on (`at-once`).
use Rattle.leaps.proofs.Entries.{at-once}
use Rattle.leaps.proofs.visits.visit_on.Goals as goal

pub returns : goal.returns
returns c to p =
    let s = c.args in
    at-once s.budget s.extent s.e.now c.requires.0 s.own.now s.other.now _ _ to p c.visit_command-v.ensures _ c.leave.ensures
