-- The held fill is the run (`fill-ends`), or the lists go on without a tile (`hatch-over`); they are the rest of it (`lists-done`), or
-- the budget cuts a fill, whose pixels end it (`last_done`).
use mathlib.Core.Path.{◌∙◌}
use Rattle.board.proofs.Parts.{fill-ends, hatch-over, lists-few, lists-done, last_done}
use Rattle.board.proofs.record.Board.run.Goals as goal

pub returns-in-Break : goal.returns-in-Break
returns-in-Break c = fill-ends _ _ _ _ _ _ c.hatch-h.ensures _ c.in-Break.is

pub run_steps-r-requires : goal.run_steps-r-requires
run_steps-r-requires c =
    let rest = hatch-over _ _ _ _ _ _ c.hatch-h.ensures c.in-Continue.steps c.in-Continue.is _ c.bare.ensures in
    (rest.accepted, rest.few)

pub returns-in-Break-part : goal.returns-in-Break-part
returns-in-Break-part c =
    let rest = hatch-over _ _ _ _ _ _ c.hatch-h.ensures c.in-Continue.steps c.in-Continue.is _ c.bare.ensures in
    lists-done _ _ _ _ _ _ _ c.run_steps-r.ensures _ c.in-Break-part.is _ c.held-b.ensures ∙ rest.run

pub overflow_sub-budget : goal.overflow_sub-budget
overflow_sub-budget c = lists-few _ _ _ _ _ _ _ c.run_steps-r.ensures _ c.in-Continue-part.is

pub returns : goal.returns
returns c =
    let rest = hatch-over _ _ _ _ _ _ c.hatch-h.ensures c.in-Continue.steps c.in-Continue.is _ c.bare.ensures in
    last_done _ _ _ _ _ _ _ c.run_steps-r.ensures c.in-Continue-part.steps c.in-Continue-part.is _ c.held-b.ensures _ _ _
    c.hatch-last.ensures _ c.steps.ensures
    ∙ rest.run
