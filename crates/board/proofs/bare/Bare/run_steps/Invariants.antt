-- `Running`: k steps are done, and the rest of the run is that from here; and no fill is left from a turn. The measure is what is left
-- of the budget.
use mathlib.Core.Path.{◌≡◌}
use mathlib.Core.Bool.{false}
use Prim.Native.Nat.{◌-◌}
use Rattle.commands.specs.Hatching.{hatches}
use Rattle.board.specs.Runs.{added, run_call}
use Rattle.board.specs.Bare.{tiled}
use Rattle.board.proofs.Parts.{Running}
use Rattle.board.proofs.bare.Bare.run_steps.Given as goal

abbrev pub invariant-loop-k : goal.invariant-loop-k
invariant-loop-k l =
    let m₀ = tiled l.initial.b l.initial.display l.initial.virt in
    Running l.budget l.list (added l.done (run_call (l.budget - l.done) l.list m₀)) m₀ l.k (tiled l.b l.display l.virt)
    × (hatches l.initial.b.engine ≡ false → hatches l.b.engine ≡ false)

abbrev pub decreases-loop-k : goal.decreases-loop-k
decreases-loop-k l = l.budget - l.k
