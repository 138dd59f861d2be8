-- The loop's invariant is `Resting`: no command is under way, and the rest of the run is that from here. A turn is one entry, with the pixels of
-- a command that it triggers (`turn-rests`, `turn-begins`), or ends at an illegal one (`turn-refused`).
use Rattle.leaps.proofs.Entries.{turn-rests, turn-begins, turn-refused, loop-ends}
use Rattle.leaps.proofs.list_runs.run_entries.Goals as goal

pub loop-k-preserved : goal.loop-k-preserved
loop-k-preserved c =
    turn-rests _ _ _ _ _ _ _ _ _ _ c.loop-k.invariant _ _ c.end.ensures c.min-end.ensures c.loop-k-test.true _ _ _ _ c.take_entry.ensures
    _ c.in-Some.is c.take_entry.auto.display c.take_entry.auto.virt c.if-e.false

pub returns-in_default : goal.returns-in_default
returns-in_default c =
    turn-refused _ _ _ _ _ _ _ _ _ _ c.loop-k.invariant _ _ c.end.ensures c.min-end.ensures c.loop-k-test.true _ _ _ _ c.take_entry.ensures
    c.in_default.is

pub returns-then-e : goal.returns-then-e
returns-then-e c =
    turn-begins _ _ _ _ _ _ _ _ _ _ c.loop-k.invariant _ _ c.end.ensures c.min-end.ensures c.loop-k-test.true _ _ _ _ c.take_entry.ensures
    _ c.in-Some.is c.take_entry.auto.display c.take_entry.auto.virt c.if-e.true

pub returns-after-loop-k : goal.returns-after-loop-k
returns-after-loop-k c = loop-ends _ _ _ _ _ _ _ _ _ _ c.loop-k.invariant _ _ c.end.ensures c.min-end.ensures c.loop-k-test.false
