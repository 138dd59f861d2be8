-- The loop's invariant: as many visits are done as turns; each turn is one visit more (`visits-more`).
use mathlib.Core.Path.{◌≡◌, ap, ◌∙◌}
use native.Mathlib.Omega.{arith}
use Rattle.commands.specs.Steps.{scene, visits_of}
use Rattle.commands.proofs.Visiting.{visits-none, visits-more}
use Rattle.leaps.proofs.Hatching.{visited-by, with-fill}
use Rattle.leaps.proofs.visits.visit_each.Goals as goal

pub loop-init : goal.loop-init
loop-init c = visits-none _ _ _

pub loop-preserved : goal.loop-preserved
loop-preserved c = with-fill _ _ _ _ _ _ c.fill_after-f.ensures (c.visit-e.ensures ∙ visits-more _ _ _ _ c.loop.invariant)

pub returns : goal.returns
returns c =
    let s = c.args in
    let all : c.loop.counter ≡ s.n = omega arith in
    let start = scene s.start s.fill s.display.now s.virt.now in
    visited-by s.n s.extent start _ _ _ _ (c.loop.invariant ∙ ap (λ k. visits_of k s.extent start) all)
