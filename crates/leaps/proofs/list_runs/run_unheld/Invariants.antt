use Prim.Native.Nat.{◌-◌}
use Rattle.leaps.specs.Leaps.{with_tile}
use Rattle.leaps.specs.ListRuns.{Going}
use Rattle.leaps.proofs.list_runs.run_unheld.Given as goal

abbrev pub invariant-loop-k : goal.invariant-loop-k
invariant-loop-k l =
    Going l.list l.extent l.budget l.initial.c (with_tile l.extent l.initial.e l.initial.display l.initial.virt) l.k l.c (with_tile l.extent l.e l.display l.virt)

abbrev pub decreases-loop-k : goal.decreases-loop-k
decreases-loop-k l = l.budget - l.k
