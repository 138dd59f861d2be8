-- An image with a bad flag is refused as it is (`run-refused`). A fill that it holds is the run (`held-ends`), or the lists go on
-- with no tile held (`held-goes`).
use mathlib.Core.Path.{ap, ◌∙◌}
use Rattle.pramolyt.specs.Exports.{ran_by}
use Rattle.pramolyt.proofs.Calls.{run-refused, run-done}
use Rattle.pramolyt.proofs.RunParts.{held-ends, held-goes}
use Rattle.pramolyt.proofs.pramolyt_run_r2.Goals as goal

pub returns-then-not-flags_ok : goal.returns-then-not-flags_ok
returns-then-not-flags_ok c = run-refused _ _ c.flags_ok.ensures c.if-not-flags_ok.true _ _ _ _

pub returns-in-Break : goal.returns-in-Break
returns-in-Break c =
    let s = c.args in
    run-done _ _ c.flags_ok.ensures c.if-not-flags_ok.false _ _ _ _ _
    (held-ends s.budget s.list.now s.board.now s.display.now s.virt.now _ _ _ _ c.hatch_held.ensures _ c.in-Break.is _ c.steps.ensures _
    c.number.ensures)

pub returns-in-Continue : goal.returns-in-Continue
returns-in-Continue c =
    let s = c.args in
    let free = held-goes s.budget s.list.now s.board.now s.display.now s.virt.now _ _ _ _ c.hatch_held.ensures _ c.in-Continue.is in
    run-done _ _ c.flags_ok.ensures c.if-not-flags_ok.false _ _ _ _ _ (c.run_lists.ensures ∙ ap ran_by free.run)
