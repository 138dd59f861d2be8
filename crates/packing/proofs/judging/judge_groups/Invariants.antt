use mathlib.Core.Path.{◌≡◌}
use Rattle.packing.specs.Passes.{judged_past}
use Rattle.packing.proofs.judging.judge_groups.Given as goal

abbrev pub invariant-loop-g : goal.invariant-loop-g
invariant-loop-g l = judged_past l.list l.count l.start l.from ≡ judged_past l.list l.count l.sound l.g
