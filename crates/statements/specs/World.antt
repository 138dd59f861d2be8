-- A board with its memories, and what each call does to them, by the definitions that the contracts of `board` cite.
use Rattle.std.specs.Prelude.{cond, List, [], ◌∷◌, ℕ, eqb}
use Rattle.answers.specs.Reports.{Report}
use Rattle.board.specs.Steps.{machine}
use Rattle.board.specs.Runs.{run_call}
use Rattle.board.specs.Calls.{post_call, store_call, write_call}
use Rattle.board.specs.Feeding.{feed_call}
use Rattle.board.specs.Picturing.{export_call, import_call}
use Rattle.board.specs.declared.record.Board.{Board}
use Rattle.statements.specs.Paper.{Call, post, store, write, run, feed, import, export}

pub record World : Type 0 where
  pub board : Board
  pub list : List ℕ
  pub display : List ℕ
  pub virt : List ℕ

abbrev pub world : Board → List ℕ → List ℕ → List ℕ → World
world b l d v = record { board = b; list = l; display = d; virt = v }

pub record Called : Type 0 where
  pub report : Report
  pub after : World

-- "Post and store are lent the list memory, a window write the named buffer, a run all three." A feed is lent the list memory, an import
-- and an export the named buffer.
unfoldable pub called : Call → World → Called
called (post start count) w =
    let r = post_call w.list start count w.board in
    record { report = r.report; after = world r.board w.list w.display w.virt }
called (store first bytes) w =
    let r = store_call w.list first bytes w.board in
    record { report = r.report; after = world r.board r.memory w.display w.virt }
called (write number offset bytes) w =
    let d = write_call number offset bytes w.display w.board in
    let v = write_call number offset bytes w.virt w.board in
    cond (eqb number 0) (record { report = d.report; after = world d.board w.list d.memory w.virt })
    (record { report = v.report; after = world v.board w.list w.display v.memory })
called (run budget) w =
    let r = run_call budget w.list (machine w.board w.display w.virt) in
    record { report = r.report; after = world r.after.board w.list r.after.display r.after.virt }
called (feed f piece) w =
    let r = feed_call w.list f piece w.board in
    record { report = r.report; after = world r.after.board r.after.memory w.display w.virt }
called (import number picture) w =
    let d = import_call number picture w.display w.board in
    let v = import_call number picture w.virt w.board in
    cond (eqb number 0) (record { report = d.report; after = world d.board w.list d.memory w.virt })
    (record { report = v.report; after = world v.board w.list w.display v.memory })
called (export number output) w =
    let r = export_call number (cond (eqb number 0) w.display w.virt) output w.board in
    record { report = r.report; after = world r.board w.list w.display w.virt }

-- What the calls of a sequence answer, each on what the last one left.
unfoldable pub answers_to : List Call → World → List Called
answers_to [] w = []
answers_to (c ∷ cs) w = called c w ∷ answers_to cs (called c w).after
