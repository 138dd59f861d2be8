-- The steps left in both lists (01, Steps), and what holds of runs.
use Rattle.std.specs.Prelude.{◌≡◌, true, false, List, ◌++◌, ℕ, ◌+◌, ◌<◌, min, length}
use Rattle.entries.specs.declared.decoding.Entry.{Entry}
use Rattle.commands.specs.Wholes.{steps_of}
use Rattle.lists.specs.Cursors.{cursor_on, rest_of}
use Rattle.board.specs.Record.{well_formed}
use Rattle.board.specs.Steps.{Machine, scene_of, step_of}
use Rattle.board.specs.Runs.{added, run_of}
use Rattle.board.specs.declared.record.Board.{Board}

-- The two lists' entries to come, in the order in which they run.
abbrev pub to_come : List ℕ → Board → List Entry
to_come l b = rest_of l b.active.cursor ++ rest_of l (cursor_on b.pending.span)

-- "Each list's steps are its entries plus the pixels its commands visit. Registers carry over from list to list."
abbrev pub steps_left : List ℕ → Machine → ℕ
steps_left l m = steps_of m.board.sizes.extent (scene_of m) (to_come l m.board)

-- What holds of runs; proved in proofs/Counts.antt, Goes.antt and Keeps.antt.

-- "Run takes a budget and reports its steps: the lesser of the budget and the steps left in both lists, unless it
-- answers 9."
abbrev pub LesserOfBudgetAndLeft : Type 0
LesserOfBudgetAndLeft =
    (budget : ℕ) (l : List ℕ) (m : Machine) → well_formed m.board ≡ true → (run_of budget l m).report.number ≡ 0
    → (run_of budget l m).report.steps ≡ min budget (steps_left l m)

-- A run whose budget is the steps left ends idle, and one with a smaller budget does not.
abbrev pub EndsIdle : Type 0
EndsIdle =
    (l : List ℕ) (m : Machine) → well_formed m.board ≡ true → (run_of (steps_left l m) l m).report.number ≡ 0
    → (run_of (steps_left l m) l m).after.board.active.taken ≡ false

abbrev pub StaysBusy : Type 0
StaysBusy =
    (budget : ℕ) (l : List ℕ) (m : Machine) → well_formed m.board ≡ true → budget < steps_left l m
    → (run_of budget l m).report.number ≡ 0 → (run_of budget l m).after.board.active.taken ≡ true

-- A run of a + b steps is a run of a and, where that answers 0, of b.
abbrev pub RunsCompose : Type 0
RunsCompose =
    (a b : ℕ) (l : List ℕ) (m : Machine) → (run_of a l m).report.number ≡ 0
    → run_of (a + b) l m ≡ added (run_of a l m).report.steps (run_of b l (run_of a l m).after)

-- A step keeps the record well formed, and the buffers their lengths.
abbrev pub StaysWellFormed : Type 0
StaysWellFormed = (l : List ℕ) (m : Machine) → well_formed m.board ≡ true → well_formed (step_of l m).board ≡ true

abbrev pub KeepsLengths : Type 0
KeepsLengths =
    (l : List ℕ) (m : Machine)
    → (length (step_of l m).display ≡ length m.display) × (length (step_of l m).virt ≡ length m.virt)
