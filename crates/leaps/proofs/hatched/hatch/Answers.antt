-- The lesser of the budget and of what is left (`hatch-some`).
use mathlib.Core.Path.{sym, ◌∙◌}
use mathlib.Core.Bool.{not}
use lib.Dec.{eqb}
use native.Mathlib.Omega.{arith}
use borrow.Author.Tests.{eqb-false, not-false}
use Rattle.lemmas.proofs.Booleans.{or-none-left, or-none-right}
use Rattle.leaps.proofs.Hatching.{hatch-some}
use Rattle.leaps.proofs.hatched.hatch.Goals as goal

pub returns : goal.returns
returns c =
    let s = c.args in
    let under = not-false c.hatches.result (or-none-left (not c.hatches.result) (eqb s.budget 0) c.if-hatches-budget.false) in
    let any = eqb-false s.budget 0 (or-none-right (not c.hatches.result) (eqb s.budget 0) c.if-hatches-budget.false) in
    hatch-some s.budget s.extent s.e s.fill s.display.now s.virt.now (sym c.hatches.ensures ∙ under) (omega (arith, any)) _
    (rw (c.new.ensures.0, c.new.ensures.1) at c.visit_within.ensures.steps) _ _ _ (rw (c.new.ensures.0, c.new.ensures.1) at c.visit_within.ensures.visited)
    c.visit_within.auto.display c.visit_within.auto.virt
