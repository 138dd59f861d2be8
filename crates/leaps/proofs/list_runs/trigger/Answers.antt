-- A command that draws is visited at once (`triggered-goes`); with another nothing is under way (`triggered-rests`).
use Rattle.leaps.proofs.Entries.{triggered-goes, triggered-rests}
use Rattle.leaps.proofs.list_runs.trigger.Goals as goal

pub returns-then-e : goal.returns-then-e
returns-then-e c =
    let s = c.args in
    triggered-goes s.budget s.extent s.e.now s.word s.display.now s.virt.now _ c.begin.ensures c.if-e.true _ _ _ _ c.visit_at_once.ensures

pub returns-else-e : goal.returns-else-e
returns-else-e c =
    let s = c.args in
    triggered-rests s.budget s.extent s.e.now s.word s.display.now s.virt.now _ c.begin.ensures c.if-e.false
