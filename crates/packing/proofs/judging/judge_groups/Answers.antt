-- The loop's invariant: what is judged from group g on, after the groups before it, is what the whole is judged to be
-- (`judged-goes`); it ends with the groups (`judged-over`) or at the first entry that does not pass (`judged-stops`).
use mathlib.Core.Path.{sym, ◌∙◌}
use mathlib.Core.Bool.{true, false}
use native.Mathlib.Omega.{arith}
use Rattle.packing.proofs.Judges.{failing-most, judged-over, judged-stops, judged-goes}
use Rattle.packing.proofs.judging.judge_groups.Goals as goal

pub overflow_add-result : goal.overflow_add-result
overflow_add-result c = omega (arith, failing-most _ _ (sym c.in-Some.is ∙ c.first_failing.ensures))

pub returns-in-Some : goal.returns-in-Some
returns-in-Some c =
    sym (c.loop-g.invariant
    ∙ judged-stops _ _ _ _ c.loop-g-test.true _ _ c.group_at-x.ensures (sym c.in-Some.is ∙ c.first_failing.ensures))

pub loop-g-preserved : goal.loop-g-preserved
loop-g-preserved c =
    c.loop-g.invariant
    ∙ judged-goes _ _ _ _ c.loop-g-test.true _ _ c.group_at-x.ensures (sym c.in_default.is ∙ c.first_failing.ensures) c.well_formed-good.ensures

pub returns-then-sound : goal.returns-then-sound
returns-then-sound c =
    sym (c.loop-g.invariant ∙ judged-over _ _ _ _ c.loop-g-test.false true c.if-sound.true)

pub returns-else-sound : goal.returns-else-sound
returns-else-sound c =
    sym (c.loop-g.invariant ∙ judged-over _ _ _ _ c.loop-g-test.false false c.if-sound.false)
