-- What leaves everything as it was (01, What the host hears); proved in proofs/Refusals.antt.
use Rattle.std.specs.Prelude.{◌≡◌, true, false, [], ℕ, ◌*◌, ◌≤◌, length}
use Rattle.answers.specs.Reports.{report}
use Rattle.slots.specs.Slots.{area_of}
use Rattle.board.specs.Record.{well_formed}
use Rattle.statements.specs.Paper.{Call, store, write}
use Rattle.statements.specs.World.{World, Called, called}

-- "record as given"; "Lent bytes that no rule writes stay, and in a refusal other than 9 all stay." For every call, whatever
-- record and memories it is handed.
abbrev pub RefusedStays : Type 0
RefusedStays =
    (c : Call) (w : World) → ((called c w).report.number ≡ 0 → ⊥) → ((called c w).report.number ≡ 9 → ⊥) → (called c w).after ≡ w

-- A call that answers a number and leaves everything as it was.
abbrev pub unchanged : ℕ → World → Called
unchanged number w = record { report = report number 0 0; after = w }

-- "A store (first entry, bytes) of no bytes at an offset up to the end touches no entry, answers 0 and changes nothing."
abbrev pub EmptyStore : Type 0
EmptyStore =
    (w : World) (first : ℕ) → well_formed w.board ≡ true → length w.list ≡ 5 * w.board.sizes.entries
    → first ≤ w.board.sizes.entries → called (store first []) w ≡ unchanged 0 w

-- "A window write of no bytes answers so too on an idle board; while a slot is taken it is still 7."
pub record EmptyWrite (w : World) (number offset : ℕ) : Type 0 where
  pub idle : w.board.active.taken ≡ false → called (write number offset []) w ≡ unchanged 0 w
  pub taken : w.board.active.taken ≡ true → called (write number offset []) w ≡ unchanged 7 w

abbrev pub EmptyWrites : Type 0
EmptyWrites =
    (w : World) (number offset : ℕ) → well_formed w.board ≡ true → length w.display ≡ area_of w.board.sizes
    → length w.virt ≡ area_of w.board.sizes → number ≤ 1 → offset ≤ area_of w.board.sizes → EmptyWrite w number offset
