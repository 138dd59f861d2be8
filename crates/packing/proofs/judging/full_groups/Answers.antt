-- The loop's invariant: the search from group g on ends where the whole one does. It ends at a group that is not full
-- (`full-stops`), or goes on to the next (`full-goes`).
use mathlib.Core.Path.{◌≡◌, ap, sym, ◌∙◌}
use native.Mathlib.Omega.{arith}
use Rattle.packing.specs.Passes.{full_group}
use Rattle.packing.proofs.Fulls.{full_start, full-over, full-stops, full-goes}
use Rattle.packing.proofs.judging.full_groups.Goals as goal

pub loop-g-init : goal.loop-g-init
loop-g-init c = full_start c.args.list.now c.args.most

pub returns-then-not-full : goal.returns-then-not-full
returns-then-not-full c =
    sym (c.loop-g.invariant
    ∙ full-stops c.args.list.now c.args.most c.loop-g.g c.loop-g-test.true
    (sym (c.full.ensures ∙ ap full_group c.group_at.ensures) ∙ c.if-not-full.true))

pub loop-g-preserved : goal.loop-g-preserved
loop-g-preserved c =
    c.loop-g.invariant
    ∙ full-goes c.args.list.now c.args.most c.loop-g.g c.loop-g-test.true
    (sym (c.full.ensures ∙ ap full_group c.group_at.ensures) ∙ c.if-not-full.false)

pub returns : goal.returns
returns c =
    let end : c.args.most ≡ c.loop-g.g = omega arith in
    end ∙ sym (c.loop-g.invariant ∙ full-over c.args.list.now c.args.most c.loop-g.g c.loop-g-test.false)
