use mathlib.Core.Path.{◌≡◌}
use Rattle.commands.specs.Steps.{scene, visits_of}
use Rattle.leaps.proofs.visits.visit_each.Given as goal

abbrev pub invariant-loop : goal.invariant-loop
invariant-loop l = scene l.e l.f l.display l.virt ≡ visits_of l.counter l.extent (scene l.initial.e l.initial.f l.initial.display l.initial.virt)
