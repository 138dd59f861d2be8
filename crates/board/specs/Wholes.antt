-- What a run that ends both lists leaves on the two buffers (01, Steps), and that R-6 changed nothing of it (document 02).
use Rattle.std.specs.Prelude.{◌≡◌, true, false, List, ℕ, ◌≤◌}
use Rattle.commands.specs.Visits.{every}
use Rattle.commands.specs.Steps.{scene}
use Rattle.commands.specs.Wholes.{done_by, done_of}
use Rattle.lists.specs.Cursors.{entries_from}
use Rattle.board.specs.Record.{well_formed}
use Rattle.board.specs.Steps.{Machine, machine, scene_of}
use Rattle.board.specs.Runs.{run_of, run_call}
use Rattle.board.specs.Left.{to_come, steps_left}
use Rattle.board.specs.Calls.{post_call}
use Rattle.board.specs.declared.record.Board.{Board}

-- What holds of runs; proved in proofs/Wholes.antt. A run that answers 0 with budget enough does what is under way and every
-- entry to come.
abbrev pub RunsToTheEnd : Type 0
RunsToTheEnd =
    (budget : ℕ) (l : List ℕ) (m : Machine) → well_formed m.board ≡ true → (run_of budget l m).report.number ≡ 0
    → steps_left l m ≤ budget
    → scene_of (run_of budget l m).after ≡ done_of m.board.sizes.extent (scene_of m) (to_come l m.board)

-- "The picture after each whole list is to be proved unchanged": a list posted on an idle board, and a run that empties the
-- board, leave what they left when a blit visited all its cells.
abbrev pub PostedUnchanged : Type 0
PostedUnchanged =
    (b : Board) (l : List ℕ) (start count budget : ℕ) (display virt : List ℕ) → b.active.taken ≡ false →
    let p = post_call l start count b in
    let r = run_call budget l (machine p.board display virt) in
    p.report.number ≡ 0 → r.report.number ≡ 0 → r.after.board.active.taken ≡ false
    → scene_of r.after ≡ done_by every b.sizes.extent (scene b.engine b.fill display virt) (entries_from l start count)
