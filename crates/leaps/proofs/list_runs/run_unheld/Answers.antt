-- The loop's invariant is `Going`: k steps are done, and the rest of the run is that from here. A turn is pixels of the command under way
-- (`going-visits`), or entries up to a command that is left under way.
use native.Mathlib.Omega.{arith}
use Rattle.leaps.proofs.Running.{going-visits}
use Rattle.leaps.proofs.Entries.{unheld-spent}
use Rattle.leaps.proofs.list_runs.run_unheld.Goals as goal

pub loop-k-preserved-else-b-eq0 : goal.loop-k-preserved-else-b-eq0
loop-k-preserved-else-b-eq0 c =
    going-visits _ _ _ _ _ _ _ _ c.loop-k-test.true c.loop-k.invariant _ _ (c.visit_some-b.ensures.some (omega (arith, c.if-b-eq0.false)))
    c.visit_some-b.auto.display c.visit_some-b.auto.virt

pub returns-after-loop-k : goal.returns-after-loop-k
returns-after-loop-k c = unheld-spent _ _ _ _ _ _ _ _ _ _ c.loop-k-test.false c.loop-k.invariant
