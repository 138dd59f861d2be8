-- A run that answers 9 (01, What the host hears): "run fetches an illegal entry within its budget"; "steps before it stand
-- and are reported; next entry is that one". Proved in proofs/Stopped.antt.
use Rattle.std.specs.Prelude.{◌≡◌, true, false, List, ℕ, zero, suc, ◌<◌}
use Rattle.entries.specs.Legality.{legal_at}
use Rattle.lists.specs.Spans.{end_of}
use Rattle.lists.specs.declared.cursors.Next.TheVariants.{Broken}
use Rattle.board.specs.Record.{well_formed}
use Rattle.board.specs.Steps.{Machine, next_on, step_of}
use Rattle.board.specs.Runs.{Outcome, ended, run_call}

-- So many steps, one after the other.
unfoldable pub steps_from : ℕ → List ℕ → Machine → Machine
steps_from zero l m = m
steps_from (suc k) l m = steps_from k l (step_of l m)

pub record StoppedAt (budget : ℕ) (l : List ℕ) (m : Machine) (o : Outcome) : Type 0 where
  pub within : o.report.steps < budget
  pub stands : o.after ≡ steps_from o.report.steps l m
  pub fetches : next_on l o.after.board ≡ Broken
  pub in_list : o.after.board.active.cursor.next < end_of o.after.board.active.cursor.span
  pub illegal : legal_at l o.after.board.active.cursor.next ≡ false
  pub well : well_formed o.after.board ≡ true
  pub again : (budget : ℕ) → run_call (suc budget) l o.after ≡ ended 9 o.after

-- Of every run that answers 9. A run again, on the same memory, takes no step and answers 9.
abbrev pub NineStops : Type 0
NineStops =
    (budget : ℕ) (l : List ℕ) (m : Machine) → (run_call budget l m).report.number ≡ 9 → StoppedAt budget l m (run_call budget l m)
