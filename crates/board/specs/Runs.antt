-- Runs (01, Steps), and what the host hears of one (01, What the host hears).
use Rattle.std.specs.Prelude.{cond, List, ℕ, zero, suc, ◌+◌, length}
use Rattle.answers.specs.Reports.{Report, report, report_of}
use Rattle.lists.specs.declared.cursors.Next.{Next}
use Rattle.lists.specs.declared.cursors.Next.TheVariants.{Ended, Visit, Take, Broken}
use Rattle.slots.specs.Slots.{lent_ok}
use Rattle.board.specs.Record.{well_formed}
use Rattle.board.specs.Steps.{Machine, machine, next_on, step_of}
use Rattle.board.specs.declared.answer.Answer.{Answer}

-- What a run answers, with record and buffers after it.
pub record Outcome : Type 0 where
  pub report : Report
  pub after : Machine

abbrev pub outcome : Answer → List ℕ → List ℕ → Outcome
outcome r d v = record { report = report_of r.status; after = machine r.board d v }

abbrev pub ended : ℕ → Machine → Outcome
ended number m = record { report = report number 0 0; after = m }

-- The same with k steps more.
abbrev pub added : ℕ → Outcome → Outcome
added k o = record { report = report o.report.number o.report.place (o.report.steps + k); after = o.after }

-- A run of a well formed board: each step costs one of the budget; it ends where there is none left to do, and answers 9
-- where it would fetch an illegal entry within the budget.
abbrev pub by_next : Next → Machine → Outcome → Outcome
by_next Ended m more = ended 0 m
by_next Visit m more = added 1 more
by_next (Take e) m more = added 1 more
by_next Broken m more = ended 9 m

unfoldable pub run_of : ℕ → List ℕ → Machine → Outcome
run_of zero l m = ended 0 m
run_of (suc budget) l m = by_next (next_on l m.board) m (run_of budget l (step_of l m))

-- "Run: 1, 2, 9", the lowest number first.
unfoldable pub run_call : ℕ → List ℕ → Machine → Outcome
run_call budget l m =
    cond (well_formed m.board)
    (cond (lent_ok m.board.sizes (length l) (length m.display) (length m.virt)) (run_of budget l m) (ended 2 m))
    (ended 1 m)
