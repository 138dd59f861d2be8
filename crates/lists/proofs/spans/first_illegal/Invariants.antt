use mathlib.Core.Path.{◌≡◌}
use Rattle.lists.specs.Spans.{illegal_from}
use Rattle.lists.proofs.spans.first_illegal.Given as goal

abbrev pub invariant-loop-left : goal.invariant-loop-left
invariant-loop-left l = illegal_from l.list l.initial.place l.initial.left ≡ illegal_from l.list l.place l.left

abbrev pub decreases-loop-left : goal.decreases-loop-left
decreases-loop-left l = l.left
