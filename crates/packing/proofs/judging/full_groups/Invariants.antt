use mathlib.Core.Path.{◌≡◌}
use Prim.Native.Nat.{◌-◌}
use Rattle.packing.specs.Passes.{leading}
use Rattle.packing.proofs.Fulls.{full_at}
use Rattle.packing.proofs.judging.full_groups.Given as goal

abbrev pub invariant-loop-g : goal.invariant-loop-g
invariant-loop-g l = leading (full_at l.list) 0 l.most ≡ leading (full_at l.list) l.g (l.most - l.g)
